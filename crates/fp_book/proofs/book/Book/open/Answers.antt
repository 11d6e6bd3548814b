use Rattle.fp_book.proofs.Names.{Follows, Inside, Left, LocalIds, Message, Open, Opened, Opens, OpensAt, OpensDialogue, Prepared, ap, arith, arrival_of, base_of, drop, entries_in, identifier, inl, is_ready, joins, length, more_accepted, most_elements, refl, shelf_of, subst, sum_of, sym, turns_of, verdict, ℕ, ◌++◌, ◌+◌, ◌∙◌, ◌≡◌, ◌≤◌}
use Rattle.std.specs.FinMap as map
use Rattle.fp_book.proofs.Fits.{can_open}
use Rattle.fp_book.proofs.Kept.{Leaves, leaves, place_for_new, room_for_new, same_parts, timed_inserted}
use Rattle.fp_book.proofs.Counts.{receipt_lost, receipt_of}
use Rattle.fp_book.proofs.Serials.{given_first, is_fresh, of_ids}
use Rattle.fp_book.proofs.Sums.{inserted}
use Rattle.fp_book.proofs.Turns.{components_few}
use Rattle.fp_book.proofs.book.Book.open.Goals as goal

-- the next identifier is no dialogue's yet
pub open-requires : goal.open-requires
open-requires c =
    let b = c.self.inside in
    let gives = given_first (base_of b.ids.link b.ids.tag) b.ids.queue (drop 1 b.ids.queue) c.in-Some.local c.in-Some.ensures refl in
    let same = gives.1 ∙ ap (λ (p : ℕ × ℕ). identifier (base_of p.0 p.1) gives.0) c.self.invariant.links in
    ap (map.get b.rows) same ∙ is_fresh (shelf_of b) gives.0 (drop 1 b.ids.queue) c.self.invariant.sound gives.2

-- there are fewer deadlines than places for them
pub set_deadline-requires : goal.set_deadline-requires
set_deadline-requires c = room_for_new _ _ _ c.self.invariant.timed (can_open (shelf_of c.self.inside) c.args.self.now c.args.came c.args.peer c.self.view_is c.requires).rows

-- and fewer dialogues that are ready
pub join-requires : goal.join-requires
join-requires c is = place_for_new _ c.self.invariant.sound (can_open (shelf_of c.self.inside) c.args.self.now c.args.came c.args.peer c.self.view_is c.requires).rows

-- a message has few components
pub overflow_cast-result : goal.overflow_cast-result
overflow_cast-result c =
    let few = subst (λ (m : Prepared). length (entries_in m) ≤ most_elements + 1) c.in-Message.is (can_open (shelf_of c.self.inside) c.args.self.now c.args.came c.args.peer c.self.view_is c.requires).grow.few in
    omega (arith, c.component_count-components.ensures, components_few c.in-Message.incoming.entries, few)

-- the parts of the book then
abbrev after : goal.After-add → Inside
after c = record c.self.inside {
  ids = c.give.new.self;
  births = c.self.inside.births + 1;
  entries = c.self.inside.entries + c.len-count.result;
  rows = c.open.new.rows;
  deadlines = c.set_deadline.new.deadlines;
  ready = c.join.new.ready;
  totals = record c.self.inside.totals { accepted = c.self.inside.totals.accepted + c.component_count-components.result };
  log = c.add.new.self;
}

-- the dialogue is open
opened : (c : goal.After-add) → Leaves (after c) (OpensDialogue (shelf_of c.self.inside) c.args.peer (Message c.in-Message.arrival c.in-Message.incoming) (Opened c.in-Some.local))
opened c =
    let b = c.self.inside in
    let s = shelf_of b in
    let k = c.self.invariant in
    let arrival = c.in-Message.arrival in
    let came = Message arrival c.in-Message.incoming in
    let local = c.in-Some.local in
    let gives = given_first (base_of b.ids.link b.ids.tag) b.ids.queue c.give.new.self.queue local c.in-Some.ensures (ap (λ (i : LocalIds). i.queue) c.give.ensures.left) in
    let serial = gives.0 in
    let rest = c.give.new.self.queue in
    let l = identifier (base_of b.link b.tag) serial in
    let same : local ≡ l = gives.1 ∙ ap (λ (p : ℕ × ℕ). identifier (base_of p.0 p.1) serial) k.links in
    let h : OpensAt b.rows local c.args.peer (b.births + 1) arrival.moment c.in-Message.incoming.entries c.in-Ok.left c.open.new.rows = c.in-Ok.ensures.ok in
    let rows : c.open.new.rows ≡ map.insert b.rows l h.after = h.rows ∙ ap (λ x. map.insert b.rows x h.after) same in
    let is : verdict s came ≡ Open c.args.peer = subst (λ (m : Prepared). verdict s m ≡ Open c.args.peer) c.in-Message.is (subst (λ t. verdict t c.args.came ≡ Open c.args.peer) (sym c.self.view_is) c.requires) in
    leaves (after c) s.gone (OpensDialogue s c.args.peer came (Opened local))
    (λ then does. c.messages_keep_a_book_sound.ensures s then came (Opened local) k.sound (inl (subst (λ v. Follows v s came (Opened local) then) (sym is) does)))
    (record {
      serial = serial;
      rest = rest;
      first = gives.2;
      opened = h.opened;
      after = h.after;
      opens = subst (λ x. Opens x c.args.peer (b.births + 1) arrival.moment h.opened) same h.opens;
      extends = h.extends;
      answer_is = ap Opened same;
      new_is = rw (c.len-count.ensures, c.component_count-components.ensures) (same_parts (record s {
        births = b.births + 1;
        entries = b.entries + length c.in-Message.incoming.entries;
        totals = more_accepted b.totals c.in-Message.incoming.entries;
      }) refl rows (c.join.ensures ∙ ap (λ (x : Left). b.ready ++ joins local x.is_ready) h.left_is ∙ ap (λ x. b.ready ++ joins x (is_ready h.after)) same) refl c.add.ensures);
    })
    (ap of_ids c.give.ensures.left ∙ k.links)
    (omega (arith, k.turns, ap (sum_of turns_of) rows, (inserted b.rows l _ h.after (is_fresh s serial rest k.sound gives.2)).sums turns_of, h.extends.out, h.opens.out))
    (rw (h.rows, c.set_deadline.ensures, h.left_is) (timed_inserted b.deadlines b.rows local (map.get b.rows local) h.after refl k.timed))

pub invariant_of-self-2 : goal.invariant_of-self-2
invariant_of-self-2 c = (opened c).kept

pub returns : goal.returns
returns c =
    let came = Message c.in-Message.arrival c.in-Message.incoming in
    rw c.in-Message.is (receipt_of (Open c.args.peer) c.args.self.now (shelf_of (after c)) came (Opened c.in-Some.local) c.component_count-components.result
    (subst (λ (m : Prepared). verdict c.args.self.now m ≡ Open c.args.peer) c.in-Message.is c.requires) c.component_count-components.ensures (rw (← c.self.view_is) (opened c).is))

-- memory ran out
pub returns-in_default-open : goal.returns-in_default-open
returns-in_default-open c =
    rw c.not_accepted.ensures (receipt_lost (Open c.args.peer) c.args.self.now (shelf_of (record c.self.inside { rows = c.open.new.rows })) c.lose.new.self c.args.came c.in-Message.arrival c.lose.result c.requires refl
    (sym (ap arrival_of c.in-Message.is)) (ap (λ rows. shelf_of (record c.self.inside { rows = rows })) c.in_default-open.ensures.err ∙ c.self.view_is) c.lose.ensures)
