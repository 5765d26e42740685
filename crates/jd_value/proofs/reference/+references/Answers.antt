use Rattle.jd_value.proofs.Inside.{in_list, in_tuple}
use Rattle.jd_value.proofs.reference.+references.Goals as goal

pub push_references-returns-in-List : goal.push_references-returns-in-List
push_references-returns-in-List t c = rw (c.in-List.is, in_list c.in-List.items, ← c.get-in-List.ensures, ← c.as_slice.ensures) c.push_all.ensures

pub push_references-returns-in-Tuple : goal.push_references-returns-in-Tuple
push_references-returns-in-Tuple t c = rw (c.in-Tuple.is, in_tuple c.in-Tuple.items, ← c.get-in-Tuple.ensures, ← c.as_slice-in-Tuple.ensures) c.push_all-in-Tuple.ensures
