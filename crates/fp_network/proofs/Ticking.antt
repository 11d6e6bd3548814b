-- A connection for which time is over is closed, and any other one is the same. One that is late is closed by a read that
-- finds nothing more, or by its last one.
use Rattle.std.proofs.Common.{◌≡◌, ℕ, Bool, true, false, cond, ◌&&◌, Option, Some, None, is_some, refl, sym, ap}
use Rattle.std.proofs.lemmas.Bool.{false≢true}
use Rattle.std.specs.Option.{option_map}
use Rattle.fp_network.specs.declared.connection.Connection.{Connection}
use Rattle.fp_network.specs.declared.course.Course.{Course}
use Rattle.fp_network.specs.declared.course.Course.TheVariants as courses
use Rattle.fp_network.specs.declared.event.Closing.{Closing}
use Rattle.fp_network.specs.declared.event.Closing.TheVariants.{Draining}
use Rattle.fp_network.specs.Changes.{closed_if, closing, counting_read, reading_late, ticking}
use Rattle.fp_network.specs.Course.{closing_of, is_late}
use Rattle.fp_network.specs.Node.{is_over_of, is_read_out_of, overdue_of}

pub ticking_none : (at : ℕ) (own : Option Connection) → overdue_of at own ≡ None → own ≡ option_map (ticking at) own
ticking_none at None is = refl
ticking_none at (Some own) is = ap (λ (why : Option Closing). Some (closed_if why own)) (sym is)

pub ticking_some : (at : ℕ) (why : Closing) (own : Option Connection) → overdue_of at own ≡ Some why
    → option_map (closing why) own ≡ option_map (ticking at) own
ticking_some at why None is = refl
ticking_some at why (Some own) is = ap (λ (why : Option Closing). Some (closed_if why own)) (sym is)

pub reading_goes_on : (at : ℕ) (found_no_more : Bool) (own : Option Connection) → is_read_out_of at found_no_more own ≡ false
    → option_map (counting_read at) own ≡ option_map (reading_late at found_no_more) own
reading_goes_on at found_no_more None is = refl
reading_goes_on at found_no_more (Some own) is =
    ap (λ (out : Bool). Some (cond out (closing Draining own) (counting_read at own))) (sym is)

pub reading_ends : (at : ℕ) (found_no_more : Bool) (own : Option Connection) → is_read_out_of at found_no_more own ≡ true
    → option_map (closing Draining) own ≡ option_map (reading_late at found_no_more) own
reading_ends at found_no_more None is = refl
reading_ends at found_no_more (Some own) is =
    ap (λ (out : Bool). Some (cond out (closing Draining own) (counting_read at own))) (sym is)

-- one that a read closes isn't to be closed yet
late_lives : (course : Course) (at : ℕ) (last : Bool) → (is_late course at && last) ≡ true → is_some (closing_of course) ≡ false
late_lives courses.Open at last late = refl
late_lives (courses.Draining since) at last late = refl
late_lives (courses.Shut since) at last late = refl
late_lives (courses.Over why) at last late = absurd (false≢true late)

pub read_out_lives : (at : ℕ) (found_no_more : Bool) (own : Option Connection) → is_read_out_of at found_no_more own ≡ true → is_over_of own ≡ false
read_out_lives at found_no_more None out = absurd (false≢true out)
read_out_lives at found_no_more (Some own) out = late_lives own.course at _ out
