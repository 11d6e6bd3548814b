use Rattle.std.proofs.Common.{sym, ◌∙◌}
use Rattle.csv.specs.Records.{fields_of}
use Rattle.fp_records.proofs.Gathered.{room-for}
use Rattle.fp_records.proofs.gathering.Gathering.accepted.Goals as goal

pub returns-then-has_room-clause-room : goal.returns-then-has_room-clause-room
returns-then-has_room-clause-room c =
    room-for c.args.self.now c.args.version (fields_of c.args.row.now) c.in_ok-item.item (sym c.in_ok-item.ensures) (sym c.has_room.ensures ∙ c.if-has_room.true)
