-- Messages of the link are forwarded one after another.
use Rattle.std.proofs.Common.{◌≡◌, ℕ, not, ◌&&◌, List, [], ◌∷◌, ◌++◌, Option, append_assoc, append-nil, inl, inr, refl, sym, subst, ap, ◌∙◌, length}
use Rattle.std.specs.List.{flat_map}
use Rattle.std.specs.Option.{option_map}
use Rattle.std.proofs.lemmas.List.Concat.{flat_map-append}
use Rattle.std.proofs.lemmas.List.Elements.{All-append, All-cons, All-nil}
use Rattle.fp_adaptor.specs.declared.adaptor.Adaptor.{Adaptor}
use Rattle.fp_adaptor.specs.declared.setting.Setting.{Setting}
use Rattle.fp_adaptor.specs.Adaptor.{Led, what_became}
use Rattle.fp_adaptor.specs.History.{Event, said}
use Rattle.fp_frames.specs.Frame.{IsMessageLength, framed}
use Rattle.fp_frames.specs.Stream.{Begins, Frames}
use Rattle.fp_network.specs.declared.connection.Connection.{Connection}
use Rattle.fp_network.specs.declared.node.Node.{Node}
use Rattle.fp_network.specs.declared.tally.Tally.{Tally}
use Rattle.fp_network.specs.Changes.{closing}
use Rattle.fp_network.specs.Counting.{Counts}
use Rattle.fp_network.specs.Forwarding.{Forwards, ForwardsEach}
use Rattle.fp_network.specs.Node.{LeavesLink, WaitsOn, connection_at, connection_in, is_over_at, is_over_of, refusal_of, waiting_of}
use Rattle.fp_network.specs.Receiving.{SkipsNone}
use Rattle.fp_network.proofs.Tallied.{counts_more, counts_none}
use Rattle.fp_network.proofs.Waits.{stays_more, waits_same}

-- no frames are all octets
pub frames_none : (octets rest : List ℕ) → rest ≡ octets → Frames octets [] rest
frames_none octets rest is = record { sizes = All-nil (λ (m : List ℕ). IsMessageLength (length m)); whole = sym is }

-- frames, and then the first one of their rest
pub frames_then : (octets rest behind message : List ℕ) (messages : List (List ℕ)) → Frames octets messages rest → Begins rest message behind
    → Frames octets (messages ++ message ∷ []) behind
frames_then octets rest behind message messages frames begins = record {
  sizes =
      All-append (λ (m : List ℕ). IsMessageLength (length m)) messages (message ∷ []) frames.sizes
      (All-cons (λ (m : List ℕ). IsMessageLength (length m)) message [] begins.size (All-nil (λ (m : List ℕ). IsMessageLength (length m))));
  whole =
      frames.whole ∙ ap (λ o. flat_map framed messages ++ o) (begins.whole ∙ ap (λ o. o ++ behind) (sym (append-nil (framed message))))
      ∙ sym (append_assoc (flat_map framed messages) (flat_map framed (message ∷ [])) behind)
      ∙ ap (λ o. o ++ behind) (sym (flat_map-append framed messages (message ∷ [])));
}

-- which message is forwarded doesn't depend on anything else of the old node than its places
forwards_from : (setting : Setting) (history : List Event) (message : List ℕ) (old other new : Node) → other.places ≡ old.places
    → other.names.items ≡ old.names.items → other.is_draining ≡ old.is_draining → Forwards setting history message other new
    → Forwards setting history message old new
forwards_from setting history message old other new same names drains way = record {
  closed = way.closed;
  between = way.between;
  closes = record {
    are_ended = way.closes.are_ended;
    those = λ place.
        way.closes.those place
        ∙ ap (λ (own : Option Connection). not (is_over_of own) && is_over_at way.between place) (here place);
    stay = λ place over. way.closes.stay place (ap is_over_of (here place) ∙ over);
  };
  way = way.way;
  too_long = way.too_long;
  refused = λ place. elim (way.refused place) [
    | inl is ↦ inl (is ∙ here place)
    | inr is ↦ inr (is.0, ap refusal_of (sym (here place)) ∙ is.1, is.2 ∙ ap (option_map (closing is.0)) (here place))
  ];
  rest = record {
    each = λ place.
        let more = way.rest.each place in
        (more.0, more.1 ∙ ap (λ (own : Option Connection). waiting_of own ++ more.0) (here place));
  };
  sent = way.sent;
  sends = way.sends;
  takes = λ units tied. way.takes (units ∙ sym (ap length names)) (λ unit place is. ap is_over_of (here place) ∙ tied unit place is);
  puts = way.puts;
  read = way.read;
  is_read = way.is_read;
  led = way.led;
  names = way.names ∙ names;
  draining = way.draining ∙ drains;
}
  where
    here : (place : ℕ) → connection_in other place ≡ connection_in old place
    here place = ap (λ places. connection_at places.items place) same

-- one more message is forwarded, after a step that changed nothing that counts
pub forwards_then : (setting : Setting) (history : List Event) (messages : List (List ℕ)) (message : List ℕ) (old mid next new : Node)
    → ForwardsEach setting history messages old mid → next.places ≡ mid.places → next.names.items ≡ mid.names.items
    → next.is_draining ≡ mid.is_draining
    → ((before : List Event) → Led mid.adaptor setting before → Forwards setting before message next new)
    → ForwardsEach setting history (messages ++ message ∷ []) old new
forwards_then setting history [] message old mid next new (same, names, drains, led) is named draining forward =
    let way = forwards_from setting history message old next new (is ∙ same) (named ∙ names) (draining ∙ drains) (forward history led) in
    (new, way, (refl, refl, refl, way.led))
forwards_then setting history (first ∷ messages) message old mid next new (after, way, each) is named draining forward = (
  after,
  way,
  forwards_then setting (said way.read (what_became way.sent) ∷ (way.closed ++ history)) messages message after mid next new each is named
      draining forward,
)

-- and a step that changes nothing that counts
pub forwards_as : (setting : Setting) (history : List Event) (messages : List (List ℕ)) (old mid new : Node)
    → ForwardsEach setting history messages old mid → new.places ≡ mid.places → new.names.items ≡ mid.names.items
    → new.is_draining ≡ mid.is_draining → new.adaptor ≡ mid.adaptor
    → ForwardsEach setting history messages old new
forwards_as setting history [] old mid new (same, names, drains, led) is named draining own =
    (is ∙ same, named ∙ names, draining ∙ drains, subst (λ (own : Adaptor). Led own setting history) (sym own) led)
forwards_as setting history (first ∷ messages) old mid new (after, way, each) is named draining own = (
  after,
  way,
  forwards_as setting (said way.read (what_became way.sent) ∷ (way.closed ++ history)) messages after mid new each is named draining own,
)

-- the messages so far were forwarded, what waits for the link is the same, and what waits for connections stays
pub record Followed (old : Node) (octets : List ℕ) (new : Node) : Type 0 where
  pub forwards :
      (messages : List (List ℕ)) × Frames (old.from_link ++ octets) messages new.from_link
      × ((setting : Setting) (history : List Event) → Led old.adaptor setting history → ForwardsEach setting history messages old new)
  pub rest : WaitsOn old new
  pub link : new.to_link ≡ old.to_link
  pub names : new.names.items ≡ old.names.items
  pub draining : new.is_draining ≡ old.is_draining
  pub count : length new.places.items ≡ length old.places.items
  pub counted : Counts [] old new
  pub skipped : SkipsNone old new

-- one more is
pub followed_more : (old mid next new : Node) (octets message : List ℕ) → Followed old octets mid
    → Begins mid.from_link message next.from_link → next.places ≡ mid.places → next.adaptor ≡ mid.adaptor → next.to_link ≡ mid.to_link
    → next.names.items ≡ mid.names.items → next.is_draining ≡ mid.is_draining → next.tally ≡ mid.tally → next.news ≡ mid.news → LeavesLink next new → WaitsOn next new
    → Counts [] next new → SkipsNone next new → ((setting : Setting) (before : List Event) → Led next.adaptor setting before → Forwards setting before message next new)
    → Followed old octets new
followed_more old mid next new octets message so begins places own link names draining tally news leaves rest counted skipped forward = record {
  forwards = (
    so.forwards.0 ++ message ∷ [],
    subst (λ (left : List ℕ). Frames (old.from_link ++ octets) (so.forwards.0 ++ message ∷ []) left) (sym leaves.from_link)
        (frames_then _ _ _ message so.forwards.0 so.forwards.1 begins),
    λ setting history led.
        forwards_then setting history so.forwards.0 message old mid next new (so.forwards.2 setting history led) places names draining
        (λ before led. forward setting before (subst (λ (own : Adaptor). Led own setting before) (sym own) led)),
  );
  rest = stays_more _ _ _ so.rest
      (stays_more _ _ _ (waits_same mid next (λ place. ap (λ places. connection_at places.items place) places)) rest);
  link = leaves.for_link ∙ link ∙ so.link;
  names = leaves.names ∙ names ∙ so.names;
  draining = leaves.draining ∙ draining ∙ so.draining;
  count = leaves.count ∙ ap (λ places. length places.items) places ∙ so.count;
  counted = counts_more old mid new so.count so.counted
      (counts_more mid next new (ap (λ places. length places.items) places) (counts_none mid next places tally news) counted);
  skipped = skipped ∙ ap (λ (t : Tally). t.skipped) tally ∙ so.skipped;
}
