-- What a frame counts, by the parts of its message.
use Rattle.std.proofs.Common.{◌≡◌, ◌≢◌, ℕ, ◌<◌, ◌≤◌, Bool, true, false, List, [], ◌∷◌, ◌++◌, length, get_or, drop, map, Option, ℤ, Some, None, option_map, refl, sym, ap, subst, ◌∙◌, arith}
use Rattle.std.proofs.lemmas.List.{append-nil, length-drop}
use Rattle.fp_ber.specs.declared.element.Class.TheVariants.{Application, Context}
use Rattle.fp_ber.specs.Canon.{canon, canon_of_all}
use Rattle.fp_ber.specs.Tree.{Tree, Trees, constructed, more}
use Rattle.fp_frames.specs.Frame.{framed}
use Rattle.fp_q773.specs.declared.provider_abort.AbortCause.{AbortCause}
use Rattle.fp_q773.specs.ProviderAbort.{cause_code, provider_abort}
use Rattle.fp_q773.specs.Tid.{IsTid, octets_of_number}
use Rattle.fp_q773.specs.Value.{provider, user}
use Rattle.fp_q773.specs.Writable.{IsWritableDialogue}
use Rattle.fp_q773.specs.Written.{component_tree, component_trees, destination_tree, originating_tree, portions_trees, reason_trees}
use Rattle.fp_reply.specs.Reply.{abort_portion, acceptance_portion, component_value, frame_of}
use Rattle.fp_service.specs.declared.component.Component.{Component}
use Rattle.fp_service.specs.declared.component.Component.TheVariants.{Invoke, ReturnError, Reject}
use Rattle.fp_service.specs.declared.instruction.Instruction.{Instruction}
use Rattle.fp_service.specs.declared.request.AbortPortion.{AbortPortion}
use Rattle.fp_service.specs.declared.request.AbortPortion.TheVariants.{Absent, Abrt, NoName, NoVersion}
use Rattle.fp_service.specs.declared.request.Request.{Request}
use Rattle.fp_service.specs.declared.request.Request.TheVariants as requests
use Rattle.fp_counters.specs.declared.counter.Counter.{Counter}
use Rattle.fp_counters.specs.declared.counter.Counter.TheVariants as counters
use Rattle.fp_counters.specs.declared.frame.FrameCounts.{FrameCounts}
use Rattle.fp_counters.specs.Contents.{IsOneInvoke}
use Rattle.fp_counters.specs.Frames.{component_counter, frame_with, instruction_counter, provider_frame, request_frame}
use Rattle.fp_counters.proofs.Components.{invoke_trees, small_component}
use Rattle.fp_counters.proofs.Elements.{AfterElement, ContentsOf, IsOneShort, contents_alone, no_octets}

-- this is the counter of the component that comes first, if one does
abbrev pub CountsFirst : List ℕ → Option Counter → Type 0
CountsFirst octets counter =
    (component : Component) (rest : List ℕ) → length octets < 65536 → octets ≡ canon (component_tree (component_value component)) ++ rest
    → counter ≡ Some (component_counter component)

abbrev pub CountsNone : List ℕ → Option Counter → Type 0
CountsNone octets counter = octets ≡ [] → counter ≡ None

abbrev pub counted : Counter → Bool → Option Counter → Option Counter → FrameCounts
counted message ends first second = record { message = Some message; ends_dialogue = ends; first = first; second = second }

-- the components of a message, of which two are counted
pub two_counted : (octets others : List ℕ) (first second : Option Counter) (message : Counter) (ends : Bool) (all : List Component)
    → AfterElement octets others → length others ≤ length octets → CountsFirst octets first → CountsNone octets first → CountsFirst others second
    → CountsNone others second → length octets < 65536 → octets ≡ canon_of_all (component_trees (map component_value all))
    → counted message ends first second ≡ frame_with message ends all
two_counted octets others first second message ends [] after most some1 none1 some2 none2 bound is =
    let length_is : length octets ≡ 0 = ap length is in
    let p : first ≡ None = none1 is in
    let q : second ≡ None = none2 (no_octets others (omega arith)) in
    λ i. counted message ends (p i) (q i)
two_counted octets others first second message ends (a ∷ []) after most some1 none1 some2 none2 bound is =
    let p : first ≡ Some (component_counter a) = some1 a [] bound is in
    let q : second ≡ None = none2 (after (component_tree (component_value a)) [] (small_component a) bound is) in
    λ i. counted message ends (p i) (q i)
two_counted octets others first second message ends (a ∷ b ∷ all) after most some1 none1 some2 none2 bound is =
    let rest = canon_of_all (component_trees (map component_value all)) in
    let both = canon_of_all (component_trees (map component_value (b ∷ all))) in
    let p : first ≡ Some (component_counter a) = some1 a both bound is in
    let left : others ≡ both = after (component_tree (component_value a)) both (small_component a) bound is in
    let q : second ≡ Some (component_counter b) = some2 b rest (omega arith) left in
    λ i. counted message ends (p i) (q i)

-- no component follows
none_left : (all : List Component) → canon_of_all (component_trees (map component_value all)) ≡ [] → all ≡ []
none_left [] is = refl
none_left (Invoke identifier instruction ∷ all) is = let tag : ◌≡◌ {A = ℕ} 0xA1 0 = ap (λ (o : List ℕ). get_or o 0 0) is in absurd (omega arith)
none_left (ReturnError identifier e ∷ all) is = let tag : ◌≡◌ {A = ℕ} 0xA3 0 = ap (λ (o : List ℕ). get_or o 0 0) is in absurd (omega arith)
none_left (Reject identifier problem ∷ all) is = let tag : ◌≡◌ {A = ℕ} 0xA4 0 = ap (λ (o : List ℕ). get_or o 0 0) is in absurd (omega arith)

-- one Invoke is all components
one_component : (octets : List ℕ) (a : Component) (all : List Component) → IsOneShort octets → get_or octets 0 0 ≡ 0xA1
    → octets ≡ canon_of_all (component_trees (map component_value (a ∷ all))) → IsOneInvoke (drop 2 octets) (a ∷ all)
one_component octets (Invoke identifier instruction) all short tag is =
    let inside = invoke_trees identifier instruction in
    let parts = short Context 1 inside (canon_of_all (component_trees (map component_value all))) (omega arith) is in
    record { identifier = identifier; instruction = instruction; only = ap (λ u. Invoke identifier instruction ∷ u) (none_left all parts.1); encoded = parts.0 }
one_component octets (ReturnError identifier e) all short tag is =
    let other : get_or octets 0 0 ≡ 0xA3 = ap (λ (o : List ℕ). get_or o 0 0) is in absurd (omega arith)
one_component octets (Reject identifier problem) all short tag is =
    let other : get_or octets 0 0 ≡ 0xA4 = ap (λ (o : List ℕ). get_or o 0 0) is in absurd (omega arith)

pub one_invoke : (portions octets : List ℕ) (acceptance : Option (List ℕ)) (all : List Component) → IsOneShort portions
    → get_or portions 0 0 ≡ 0x6C → octets ≡ drop 2 portions → IsOneShort octets → get_or octets 0 0 ≡ 0xA1
    → portions ≡ canon_of_all (portions_trees (acceptance_portion acceptance) (map component_value all)) → IsOneInvoke (drop 2 (drop 2 portions)) all
one_invoke portions octets (Some name) all alone tag inside short invoke is =
    let other : get_or portions 0 0 ≡ 0x6B = ap (λ (o : List ℕ). get_or o 0 0) is in absurd (omega arith)
one_invoke portions octets None [] alone tag inside short invoke is =
    let other : get_or portions 0 0 ≡ 0 = ap (λ (o : List ℕ). get_or o 0 0) is in absurd (omega arith)
one_invoke portions octets None (a ∷ all) alone tag inside short invoke is =
    let parts = alone Application 12 (component_trees (map component_value (a ∷ all))) [] (omega arith) is in
    subst (λ (o : List ℕ). IsOneInvoke (drop 2 o) (a ∷ all)) inside (one_component octets a all short invoke (inside ∙ parts.0))

-- what it counts
pub one_counted : (whole contents : List ℕ) (counter : Option Counter) (message : Counter) (ends : Bool) (all : List Component)
    → contents ≡ drop 2 (drop 2 whole) → IsOneInvoke (drop 2 (drop 2 whole)) all
    → ((identifier : ℤ) (instruction : Instruction) (rest : List ℕ) → contents ≡ canon_of_all (invoke_trees identifier instruction) ++ rest
    → counter ≡ Some (instruction_counter instruction)) → counted message ends counter None ≡ frame_with message ends all
one_counted whole contents counter message ends all after one counts =
    let first = counts one.identifier one.instruction [] (after ∙ one.encoded ∙ sym (append-nil (canon_of_all (invoke_trees one.identifier one.instruction)))) in
    (λ i. counted message ends (first i) None) ∙ ap (frame_with message ends) (sym one.only)

-- the portions of a dialogue that are sent
pub accepts : (acceptance : Option (List ℕ)) → IsWritableDialogue (acceptance_portion acceptance)
accepts None = tt
accepts (Some name) = (_, refl)

pub aborts : (portion : AbortPortion) → IsWritableDialogue (abort_portion portion)
aborts Absent = tt
aborts Abrt = (_, refl)
aborts (NoName name) = (_, refl)
aborts (NoVersion name) = (_, refl)

-- the octets after the head of a frame
abbrev pub IsMessageIn : List ℕ → List ℕ → Type 0
IsMessageIn frame message = message ≡ drop 4 frame

-- the elements in the message of a frame
pub contents_in : (frame message contents : List ℕ) (number : ℕ) (children : Trees) → IsMessageIn frame message → ContentsOf message contents
    → number < 31 → length frame < 65536 → frame ≡ framed (canon (constructed Application number children)) → contents ≡ canon_of_all children
contents_in frame message contents number children after found small bound is =
    let shorter = length-drop 4 frame in
    let same = ap length after in
    contents_alone message contents Application number children found small (omega arith) (after ∙ ap (λ (f : List ℕ). drop 4 f) is)

-- the tag of a message
abbrev pub tag_in : Request → ℕ
tag_in (requests.Continue acceptance components) = 0x65
tag_in (requests.End acceptance components) = 0x64
tag_in (requests.Abort portion) = 0x67

pub tag_at : (frame message : List ℕ) (request : Request) (local : ℕ) (peer : List ℕ) → IsMessageIn frame message → frame ≡ frame_of request local peer
    → get_or message 0 0 ≡ tag_in request
unfolding frame_of
tag_at frame message (requests.Continue acceptance components) local peer after is = ap (λ (m : List ℕ). get_or m 0 0) after ∙ ap (λ (f : List ℕ). get_or (drop 4 f) 0 0) is
tag_at frame message (requests.End acceptance components) local peer after is = ap (λ (m : List ℕ). get_or m 0 0) after ∙ ap (λ (f : List ℕ). get_or (drop 4 f) 0 0) is
tag_at frame message (requests.Abort portion) local peer after is = ap (λ (m : List ℕ). get_or m 0 0) after ∙ ap (λ (f : List ℕ). get_or (drop 4 f) 0 0) is

pub is_some_message : (request : Request) (tag : ℕ) → tag_in request ≡ tag → tag ≢ 0x65 → tag ≢ 0x64 → tag ≢ 0x67 → ⊥
is_some_message (requests.Continue acceptance components) tag is a b c = omega arith
is_some_message (requests.End acceptance components) tag is a b c = omega arith
is_some_message (requests.Abort portion) tag is a b c = omega arith

-- each message counts as its request does
pub is_continue : (frame message contents : List ℕ) (counts : FrameCounts) (request : Request) (local : ℕ) (peer : List ℕ) → IsMessageIn frame message
    → ContentsOf message contents → length contents ≤ length message
    → ((local : ℕ) (destination : List ℕ) (acceptance : Option (List ℕ)) (all : List Component) → IsTid destination → length contents < 65536
    → contents ≡ canon_of_all (more (originating_tree (octets_of_number local)) (more (destination_tree destination)
    (portions_trees (acceptance_portion acceptance) (map component_value all)))) → counts ≡ frame_with counters.SentContinue false all)
    → IsTid peer → length frame < 65536 → frame ≡ frame_of request local peer → tag_in request ≡ 0x65 → counts ≡ request_frame request
unfolding frame_of
is_continue frame message contents counts (requests.Continue acceptance components) local peer after found most by_parts tid bound is tag =
    let shorter = length-drop 4 frame in
    let same = ap length after in
    let portions = portions_trees (acceptance_portion acceptance) (map component_value components) in
    let parts = more (originating_tree (octets_of_number local)) (more (destination_tree peer) portions) in
    by_parts local peer acceptance components tid (omega arith) (contents_in frame message contents 5 parts after found (omega arith) bound is)
is_continue frame message contents counts other local peer after found most by_parts tid bound is tag = absurd (omega (arith, tag))

pub is_end : (frame message contents : List ℕ) (counts : FrameCounts) (request : Request) (local : ℕ) (peer : List ℕ) → IsMessageIn frame message
    → ContentsOf message contents → length contents ≤ length message
    → ((destination : List ℕ) (acceptance : Option (List ℕ)) (all : List Component) → IsTid destination → length contents < 65536
    → contents ≡ canon_of_all (more (destination_tree destination) (portions_trees (acceptance_portion acceptance) (map component_value all)))
    → counts ≡ frame_with counters.SentEnd true all)
    → IsTid peer → length frame < 65536 → frame ≡ frame_of request local peer → tag_in request ≡ 0x64 → counts ≡ request_frame request
unfolding frame_of
is_end frame message contents counts (requests.End acceptance components) local peer after found most by_parts tid bound is tag =
    let shorter = length-drop 4 frame in
    let same = ap length after in
    let parts = more (destination_tree peer) (portions_trees (acceptance_portion acceptance) (map component_value components)) in
    by_parts peer acceptance components tid (omega arith) (contents_in frame message contents 4 parts after found (omega arith) bound is)
is_end frame message contents counts other local peer after found most by_parts tid bound is tag = absurd (omega (arith, tag))

pub is_abort : (frame message contents : List ℕ) (counts : FrameCounts) (request : Request) (local : ℕ) (peer : List ℕ) → IsMessageIn frame message
    → ContentsOf message contents → length contents ≤ length message
    → ((destination : List ℕ) (dialogue : Option Tree) → IsWritableDialogue dialogue → length contents < 65536
    → contents ≡ canon_of_all (more (destination_tree destination) (reason_trees (option_map user dialogue)))
    → counts ≡ frame_with counters.SentUserAbort true [])
    → length frame < 65536 → frame ≡ frame_of request local peer → tag_in request ≡ 0x67 → counts ≡ request_frame request
unfolding frame_of
is_abort frame message contents counts (requests.Abort portion) local peer after found most by_parts bound is tag =
    let shorter = length-drop 4 frame in
    let same = ap length after in
    let parts = more (destination_tree peer) (reason_trees (option_map user (abort_portion portion))) in
    by_parts peer (abort_portion portion) (aborts portion) (omega arith) (contents_in frame message contents 7 parts after found (omega arith) bound is)
is_abort frame message contents counts other local peer after found most by_parts bound is tag = absurd (omega (arith, tag))

pub is_provider : (frame message contents : List ℕ) (counts : FrameCounts) (cause : AbortCause) (peer : List ℕ) → IsMessageIn frame message
    → ContentsOf message contents → length contents ≤ length message
    → ((destination : List ℕ) (cause : AbortCause) → length contents < 65536
    → contents ≡ canon_of_all (more (destination_tree destination) (reason_trees (Some (provider (cause_code cause)))))
    → counts ≡ provider_frame cause)
    → length frame < 65536 → frame ≡ framed (canon (provider_abort peer (cause_code cause))) → counts ≡ provider_frame cause
is_provider frame message contents counts cause peer after found most by_parts bound is =
    let shorter = length-drop 4 frame in
    let same = ap length after in
    let parts = more (destination_tree peer) (reason_trees (Some (provider (cause_code cause)))) in
    by_parts peer cause (omega arith) (contents_in frame message contents 7 parts after found (omega arith) bound is)
