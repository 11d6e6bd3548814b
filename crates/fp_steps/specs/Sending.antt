-- What the service logic of each dialogue of a run requests, what of that is accepted for sending, and what is sent.
use Rattle.std.specs.Prelude.{ℕ, ◌==◌, List, [], ◌∷◌, ◌++◌, Option, Some, None, map, if◌then◌else◌}
use Rattle.std.specs.Option.{option_map_or}
use Rattle.fp_ber.specs.Canon.{canon}
use Rattle.fp_book.specs.declared.answers.Given.{Given}
use Rattle.fp_book.specs.declared.answers.Given.TheVariants.{Queued}
use Rattle.fp_book.specs.declared.answers.Posted.TheVariants.{Aborted}
use Rattle.fp_entry.specs.declared.prepared.Prepared.{Prepared}
use Rattle.fp_frames.specs.Frame.{framed}
use Rattle.fp_q773.specs.ProviderAbort.{cause_code, provider_abort}
use Rattle.fp_reply.specs.Reply.{frame_of}
use Rattle.fp_service.specs.declared.request.Request.{Request}
use Rattle.fp_service.specs.Fold.{requests}
use Rattle.fp_steps.specs.declared.output.Output.{Output}
use Rattle.fp_steps.specs.declared.output.Output.TheVariants as outputs
use Rattle.fp_steps.specs.Accepted.{accepted, core_of, in_places, numbers_from, served, start}
use Rattle.fp_steps.specs.Births.{Beginning, beginning, for_one, named, sender_of}
use Rattle.fp_steps.specs.History.{Event}

-- the frame of a request, under the identifiers with which its dialogue began
abbrev pub frame_from : Option Beginning → Request → List ℕ
frame_from began request = option_map_or (λ (b : Beginning). frame_of request b.local b.peer) began []

-- the frames of what the service logic requests along the entries that were served, in order
abbrev pub asked : List Event → ℕ → List (List ℕ)
asked h d = map (frame_from (beginning h d)) (requests (start h d) (served h d))

-- the frames of what it requests at this number of entries from this place on
abbrev pub asked_at : List Event → ℕ → ℕ → ℕ → List (List ℕ)
asked_at h d place count = map (frame_from (beginning h d)) (requests (core_of h d) (in_places (accepted h d) (numbers_from place count)))

-- the requests were accepted for sending
abbrev pub if_queued : Given → List (List ℕ) → List (List ℕ)
if_queued (Queued count) frames = frames
if_queued _ frames = []

abbrev pub queued_in : Output → List Event → ℕ → List (List ℕ)
queued_in (outputs.Gave local position served given) h d = if_queued given (for_one (named h local) d (asked_at h d position served))
queued_in _ h d = []

-- the frames of those requests that were accepted for sending, in order
abbrev pub queued : List Event → ℕ → List (List ℕ)
queued [] d = []
queued (e ∷ h) d = queued h d ++ queued_in e.output h d

-- what was handed out to be sent: its identifier, 0 for an Abort of the provider, the dialogue that this named then,
-- and its octets
pub record Handed : Type 0 where
  pub local : ℕ
  pub dialogue : Option ℕ
  pub octets : List ℕ

abbrev pub out_after : Output → List Event → Option Handed → Option Handed
out_after (outputs.Picked local frame) h before = Some (record { local = local; dialogue = named h local; octets = frame })
out_after outputs.Sent h before = None
out_after outputs.Unsent h before = None
out_after _ h before = before

-- what is out to be sent
abbrev pub out : List Event → Option Handed
out [] = None
out (e ∷ h) = out_after e.output h (out h)

-- a dialogue's frame that was out
abbrev pub frame_for : Option Handed → ℕ → List (List ℕ)
frame_for out d = option_map_or (λ (handed : Handed). for_one handed.dialogue d (handed.octets ∷ [])) out []

abbrev pub sent_in : Output → List Event → ℕ → List (List ℕ)
sent_in outputs.Sent h d = frame_for (out h) d
sent_in _ h d = []

-- the frames that were sent for a dialogue, in order
abbrev pub sent : List Event → ℕ → List (List ℕ)
sent [] d = []
sent (e ∷ h) d = sent h d ++ sent_in e.output h d

-- the Abort of the provider that a message is answered, for a cause, to its sender
abbrev pub abort_in : Output → Option Prepared → List (List ℕ)
abort_in (outputs.Posted (Aborted cause) components) (Some came) = framed (canon (provider_abort (sender_of came) (cause_code cause))) ∷ []
abort_in _ came = []

-- the Aborts of the provider that were answered, as frames, in order
abbrev pub aborts : List Event → List (List ℕ)
aborts [] = []
aborts (e ∷ h) = aborts h ++ abort_in e.output e.came

abbrev pub abort_out : Option Handed → List (List ℕ)
abort_out out = option_map_or (λ (handed : Handed). if handed.local == 0 then handed.octets ∷ [] else []) out []

abbrev pub abort_sent_in : Output → List Event → List (List ℕ)
abort_sent_in outputs.Sent h = abort_out (out h)
abort_sent_in _ h = []

-- those of them that were sent, in order
abbrev pub aborts_sent : List Event → List (List ℕ)
aborts_sent [] = []
aborts_sent (e ∷ h) = aborts_sent h ++ abort_sent_in e.output h
