-- The service step along a list of entries of a dialogue: the core after them, the requests, and the entries that are
-- served.
use Rattle.std.specs.Prelude.{List, [], ◌∷◌, ◌++◌, option_to_list, if◌then◌else◌}
use Rattle.fp_entry.specs.declared.entry.Entry.{Entry}
use Rattle.fp_service.specs.declared.dialogue.Core.{Core}
use Rattle.fp_service.specs.declared.request.Request.{Request}
use Rattle.fp_service.specs.Dialogue.{is_over}
use Rattle.fp_service.specs.Serve.{next, request_of}

-- the core after these entries
abbrev pub core_after : Core → List Entry → Core
core_after core [] = core
core_after core (entry ∷ entries) = core_after (next core entry) entries

-- the requests of these entries, in order
abbrev pub requests : Core → List Entry → List Request
requests core [] = []
requests core (entry ∷ entries) = option_to_list (request_of core entry) ++ requests (next core entry) entries

-- the entries up to the first after which the core is over, or all; none if it is over before them
abbrev pub cut : Core → List Entry → List Entry
cut core [] = []
cut core (entry ∷ entries) = if is_over core then [] else (entry ∷ cut (next core entry) entries)
