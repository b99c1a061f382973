-- `notes::note` meets its contract. In the answers a is the arguments, p what is required of them, w which of the eight notes is made, l that the
-- workspace is as long as before. Assumes nothing.
use mathlib.Core.Path.{refl}
use Prim.Native.Nat.{◌%◌}
use native.Mathlib.Omega.{arith}
use lib.ListN.{get_or}
use Rattle.workspace.specs.Notes.Making.{noted_nothing, noted_all}
use Rattle.workspace.specs.Places.{note_limit, turn_at}
use Rattle.notes.proofs.note.Goals as goal

pub returns-in-Some : goal.returns-in-Some
returns-in-Some c =
    let a = c.args in
    let p = c.requires in
    let w = get_or a.space.now turn_at 0 % note_limit in
    noted_all a.space.now a.depth w refl (omega arith) p.space_size_in_bounds p.depth_le_symbol_limit a.table.now a.a a.t
    c.name_types.ensures c.in-Some.is

pub returns-in_default : goal.returns-in_default
returns-in_default c =
    let a = c.args in
    let p = c.requires in
    let w = get_or a.space.now turn_at 0 % note_limit in
    noted_nothing a.space.now a.depth w refl (omega arith) p.space_size_in_bounds p.depth_le_symbol_limit a.table.now a.a a.t
    c.name_types.ensures c.in_default.is
