use Rattle.std.proofs.Common.{sym, ◌∙◌}
use Rattle.jd_tree.specs.Code.{plain_atoms}
use Rattle.jd_tree.proofs.Widths.{count_length}
use Rattle.jd_precedence.proofs.Rooms.{room_behind, room_single, room_later}
use Rattle.jd_precedence.proofs.parts.has_room.Goals as goal

pub returns-in-Some : goal.returns-in-Some
returns-in-Some c = λ a.
    let atoms = c.args.atoms.now in
    rw c.in-Some.is (room_behind (plain_atoms atoms) c.in-Some.field-0 a c.len-count.result atoms.first_more c.fits_behind.result (count_length atoms.items ∙ sym c.len-count.ensures) atoms.first_row
    c.fits_behind.ensures.0 c.fits_behind.ensures.1)

pub returns-then-atoms : goal.returns-then-atoms
returns-then-atoms c = λ a.
    let atoms = c.args.atoms.now in
    rw c.in-None.is (room_single (plain_atoms atoms) a c.len-count.result c.fits_single.result (sym atoms.one_row ∙ c.if-atoms.true) (count_length atoms.items ∙ sym c.len-count.ensures)
    c.fits_single.ensures.0 c.fits_single.ensures.1)

pub returns-else-atoms : goal.returns-else-atoms
returns-else-atoms c = λ a.
    let atoms = c.args.atoms.now in
    rw c.in-None.is (room_later (plain_atoms atoms) a c.len-count.result atoms.first_more atoms.last_more c.fits_later.result (sym atoms.one_row ∙ c.if-atoms.false) (count_length atoms.items ∙ sym c.len-count.ensures)
    atoms.first_row atoms.last_row c.fits_later.ensures.0 (λ p q. c.fits_later.ensures.1 (p, q)))
