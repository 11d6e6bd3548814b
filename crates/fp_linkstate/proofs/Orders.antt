-- Messages and frames stay in order.
use Rattle.std.proofs.Common.{◌≡◌, ℕ, Bool, true, false, List, [], ◌∷◌, ◌++◌, refl, sym, ◌∙◌, ap, append_assoc, append-nil}
use Rattle.std.proofs.lemmas.List.{map-append}
use Rattle.fp_entry.specs.declared.prepared.Prepared.{Prepared}
use Rattle.fp_entry.specs.Prepared.{arrival_of}
use Rattle.fp_linkstate.specs.Arrivals.{Arrivals, Arrived, KeepsOrder, frames_of, no_arrivals, with_frame}

-- the frames of two lists of messages
pub frames-append : (a b : List Prepared) → frames_of (a ++ b) ≡ frames_of a ++ frames_of b
frames-append a b = map-append (λ (message : Prepared). (arrival_of message).frame) a b

-- a frame is prepared
pub one_moved : (messages : List Prepared) (message : Prepared) (frames : List (List ℕ))
    → frames_of (messages ++ message ∷ []) ++ frames ≡ frames_of messages ++ (arrival_of message).frame ∷ frames
one_moved messages message frames =
    rw (frames-append messages (message ∷ [])) (append_assoc (frames_of messages) ((arrival_of message).frame ∷ []) frames)

none_arrived : Arrived [] [] [] no_arrivals
none_arrived = record { dropped = []; in_order = refl; none = λ still. refl }

-- what is prepared and what waits is the same list
same_order : (fed posted : List (List ℕ)) (before after : List Prepared) (old new : Arrivals)
    → frames_of after ++ new.frames ≡ frames_of before ++ old.frames → new.is_over ≡ old.is_over
    → Arrived fed posted before old → Arrived fed posted after new
same_order fed posted before after old new same over a = record {
  dropped = a.dropped;
  in_order = a.in_order ∙ ap (λ (l : List (List ℕ)). posted ++ l)
      (sym (append_assoc (frames_of before) old.frames a.dropped) ∙ ap (λ (l : List (List ℕ)). l ++ a.dropped) (sym same)
      ∙ append_assoc (frames_of after) new.frames a.dropped);
  none = λ still. a.none (sym over ∙ still);
}

-- what waits is dropped
all_dropped : (fed posted : List (List ℕ)) (messages : List Prepared) (old : Arrivals) → Arrived fed posted messages old
    → Arrived fed posted messages (record old { frames = []; is_over = true })
all_dropped fed posted messages old a = record {
  dropped = old.frames ++ a.dropped;
  in_order = a.in_order;
  none = λ still. cc;
}

-- four lists, and one more element at the end
ends_with : (a b c d e : List (List ℕ)) → (a ++ (b ++ (c ++ d))) ++ e ≡ a ++ (b ++ (c ++ (d ++ e)))
ends_with a b c d e = simp append_assoc

-- one more is dropped
one_dropped : (fed posted : List (List ℕ)) (messages : List Prepared) (old : Arrivals) (frame : List ℕ) → Arrived fed posted messages old
    → Arrived (fed ++ frame ∷ []) posted messages (record old { is_over = true })
one_dropped fed posted messages old frame a = record {
  dropped = a.dropped ++ frame ∷ [];
  in_order = ap (λ (l : List (List ℕ)). l ++ frame ∷ []) a.in_order ∙ ends_with posted (frames_of messages) old.frames a.dropped (frame ∷ []);
  none = λ still. cc;
}

-- one more waits
one_more : (fed posted : List (List ℕ)) (messages : List Prepared) (frames dropped : List (List ℕ)) (portion : ℕ) (frame : List ℕ)
    → fed ≡ posted ++ (frames_of messages ++ (frames ++ dropped)) → dropped ≡ []
    → fed ++ frame ∷ [] ≡ posted ++ (frames_of messages ++ ((frames ++ frame ∷ []) ++ []))
one_more fed posted messages frames dropped portion frame order none =
    ap (λ (l : List (List ℕ)). l ++ frame ∷ []) (order ∙ ap (λ (l : List (List ℕ)). posted ++ (frames_of messages ++ (frames ++ l))) none)
    ∙ rw (append-nil frames, append-nil (frames ++ frame ∷ [])) (simp append_assoc)

-- a frame is fed
fed_one : (over : Bool) (portion : ℕ) (fed posted : List (List ℕ)) (messages : List Prepared) (frames : List (List ℕ)) (frame : List ℕ)
    → let old : Arrivals = record { frames = frames; portion = portion; is_over = over } in
    Arrived fed posted messages old → Arrived (fed ++ frame ∷ []) posted messages (with_frame old frame)
fed_one true portion fed posted messages frames frame a = one_dropped fed posted messages _ frame a
fed_one false portion fed posted messages frames frame a = record {
  dropped = [];
  in_order = one_more fed posted messages frames a.dropped portion frame a.in_order (a.none refl);
  none = λ still. refl;
}

-- messages at the front are posted
posts_front : (fed posted : List (List ℕ)) (front left : List Prepared) (q : Arrivals) → Arrived fed posted (front ++ left) q
    → Arrived fed (posted ++ frames_of front) left q
posts_front fed posted front left q a = record {
  dropped = a.dropped;
  in_order = a.in_order ∙ rw (frames-append front left) (simp append_assoc);
  none = a.none;
}

-- so the queue keeps the order
pub keeps_order : KeepsOrder
keeps_order = record {
  begins = none_arrived;
  feeds = λ fed posted messages q frame a. fed_one q.is_over q.portion fed posted messages q.frames frame a;
  fails = λ fed posted messages q frame a. one_dropped fed posted messages q frame a;
  quits = λ fed posted messages q a. all_dropped fed posted messages q a;
  moves = same_order;
  posts = posts_front;
}
