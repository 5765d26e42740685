use Rattle.std.proofs.Common.{◌≡◌, true}
use Rattle.jd_grammar.specs.Rows.{is_chain, joined, first_of, cells_of}
use Rattle.jd_tree.specs.Plain.{plain}
use Rattle.jd_tree.specs.Peeling.{taken}
use Rattle.jd_tree.proofs.peel.take_all.Given as goal

abbrev pub invariant-inner : goal.invariant-inner
invariant-inner l = record {
  chain : is_chain (plain l.current) ≡ true;
  first : first_of (plain l.current) ≡ first_of (plain l.fn.row);
  cells : joined (cells_of (plain l.current)) (taken l.taken_off) ≡ joined (cells_of (plain l.fn.row)) (taken l.fn.taken_off);
}
