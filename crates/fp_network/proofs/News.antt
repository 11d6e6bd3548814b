-- Events that weren't returned are still the next ones, and those of a call follow them.
use Rattle.std.proofs.Common.{◌≡◌, ◌≤◌, ℕ, cond, List, [], ◌∷◌, ◌++◌, Ok, Err, OnErr, Result, is_ok, length, length-append, append_assoc, append-nil, arith, inl, inr, refl, sym, ap, ◌∙◌}
use Rattle.std.specs.VecDeque.{deque_capacity}
use Rattle.fp_network.specs.declared.event.NetworkEvent.{NetworkEvent}
use Rattle.fp_network.specs.declared.node.Node.{Node}
use Rattle.fp_network.specs.Counting.{AreSome, NewsGrow, Notes}

-- no event is added
unfoldable pub news_same : (old new : Node) → new.news ≡ old.news → NewsGrow old new
news_same old new same = record {
  more = [];
  grow = ap (λ news. news.items) same ∙ sym (append-nil old.news.items);
  room = let is = ap deque_capacity same in omega (arith, is);
}

pub notes_none : (old new : Node) → new.news ≡ old.news → Notes [] old new
unfolding news_same
notes_none old new same = record { grows = news_same old new same; some = tt; all = inl refl }

unfoldable pub news_then : (old mid new : Node) → NewsGrow old mid → NewsGrow mid new → NewsGrow old new
news_then old mid new first then = record {
  more = first.more ++ then.more;
  grow = then.grow ∙ ap (λ l. l ++ then.more) first.grow ∙ append_assoc old.news.items first.more then.more;
  room = let one = first.room in let other = then.room in omega (arith, one, other);
}

news_longer : (mid new : Node) → NewsGrow mid new → length mid.news.items ≤ length new.news.items
news_longer mid new then = let is = ap length then.grow ∙ length-append mid.news.items then.more in omega (arith, is)

-- an event is added, or memory ran out for it
pub noted : {T E : Type 0} (event : NetworkEvent) (old new : Node) (result : Result T E) (count : ℕ) → count ≡ length old.news.items
    → new.news.items ≡ cond (is_ok result) (old.news.items ++ event ∷ []) old.news.items
    → OnErr result (deque_capacity old.news ≤ count) → deque_capacity old.news ≤ deque_capacity new.news → Notes (event ∷ []) old new
noted event old new (Ok value) count counted is full room =
    record { grows = record { more = event ∷ []; grow = is; room = room }; some = inl (refl, tt); all = inl refl }
noted event old new (Err fault) count counted is full room =
    let same = ap length is in
    record {
      grows = record { more = []; grow = is ∙ sym (append-nil old.news.items); room = room };
      some = tt;
      all = inr (omega (arith, same, counted, full));
    }

-- events are added, and then others
some_after : (events some others : List NetworkEvent) → AreSome some others → AreSome some (events ++ others)
some_after [] some others are = are
some_after (event ∷ events) [] others are = tt
some_after (event ∷ events) (one ∷ some) others are = inr (some_after events (one ∷ some) others are)

some_then : (events some others more : List NetworkEvent) → AreSome some events → AreSome more others → AreSome (some ++ more) (events ++ others)
some_then events [] others more first then = some_after events more others then
some_then [] (one ∷ some) others more first then = absurd first
some_then (event ∷ events) (one ∷ some) others more first then = elim first [
  | inl is ↦ inl (is.0, some_then events some others more is.1 then)
  | inr are ↦ inr (some_then events (one ∷ some) others more are then)
]

pub notes_then : (events others : List NetworkEvent) (old mid new : Node) → Notes events old mid → Notes others mid new → Notes (events ++ others) old new
unfolding news_then
notes_then events others old mid new first then = record {
  grows = news_then old mid new first.grows then.grows;
  some = some_then events first.grows.more others then.grows.more first.some then.some;
  all = elim first.all [
    | inl is ↦ elim then.all [
      | inl same ↦ inl (λ i. is i ++ same i)
      | inr full ↦ inr (let room = first.grows.room in omega (arith, room, full))
    ]
    | inr full ↦ inr (let long = news_longer mid new then.grows in omega (arith, full, long))
  ];
}

-- events are added to those of a node that has the same ones
pub notes_from : (events : List NetworkEvent) (old mid new : Node) → mid.news ≡ old.news → Notes events mid new → Notes events old new
notes_from events old mid new same = notes_then [] events old mid new (notes_none old mid same)
