use Rattle.fp_book.proofs.Names.{arith, len, ◌<◌, ◌≤◌, most_dialogues}
use Rattle.fp_book.proofs.Ticks.{begins, few_added, fewer, one_more, refused}
use Rattle.fp_book.proofs.ticking.clock_each.Goals as goal

pub loop-refusals-init : goal.loop-refusals-init
loop-refusals-init c = begins c.args.moment c.args.rows.now c.args.deadlines.now c.args.ready.now c.requires

-- at most as many as there are dialogues
pub overflow_add-added : goal.overflow_add-added
overflow_add-added c =
    let few : c.loop-refusals.added ≤ most_dialogues = few_added c.args.moment c.args.rows.now c.args.ready.now c.loop-refusals.rows c.loop-refusals.deadlines c.loop-refusals.ready c.loop-refusals.added c.requires.held c.loop-refusals.invariant.so_far in
    omega (arith, few)

-- one deadline less counts for more than eight refusals
pub loop-refusals-smaller-in-Given : goal.loop-refusals-smaller-in-Given
loop-refusals-smaller-in-Given c =
    let less : len c.clock_next.new.deadlines < len c.loop-refusals.deadlines =
    fewer c.loop-refusals.last c.args.moment c.loop-refusals.rows c.loop-refusals.deadlines c.loop-refusals.ready c.clock_next.new.rows c.clock_next.new.deadlines c.clock_next.new.ready c.in-Given.ensures.clocks in
    omega (arith, less, c.loop-refusals-test.true)

pub loop-refusals-preserved-in-Given : goal.loop-refusals-preserved-in-Given
loop-refusals-preserved-in-Given c =
    one_more c.loop-refusals.last c.args.moment c.args.rows.now c.args.ready.now c.loop-refusals.rows c.loop-refusals.deadlines c.loop-refusals.ready c.loop-refusals.added c.clock_next.new.rows c.clock_next.new.deadlines c.clock_next.new.ready
    c.loop-refusals.invariant c.in-Given.ensures.clocks

pub loop-refusals-preserved : goal.loop-refusals-preserved
loop-refusals-preserved c =
    refused c.loop-refusals.last c.in-OutOfMemory.timer c.args.moment c.args.rows.now c.args.ready.now c.loop-refusals.rows c.loop-refusals.deadlines c.loop-refusals.ready c.loop-refusals.added
    c.clock_next.new.rows c.clock_next.new.deadlines c.clock_next.new.ready c.loop-refusals.invariant c.in-OutOfMemory.ensures.clocks
