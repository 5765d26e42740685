use Rattle.jd_value.proofs.Printed.{shows_list, shows_tuple}
use Rattle.jd_value.proofs.print.+print.Goals as goal

pub push_inside-returns-in-List : goal.push_inside-returns-in-List
push_inside-returns-in-List t c = rw (c.in-List.is, shows_list c.in-List.items, ← c.get-in-List.ensures) c.push_list.ensures

pub push_inside-returns-in-Tuple : goal.push_inside-returns-in-Tuple
push_inside-returns-in-Tuple t c =
    rw (c.in-Tuple.is, shows_tuple c.in-Tuple.items, ← c.get-in-Tuple.ensures) c.push_tuple.ensures
