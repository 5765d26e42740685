-- The printed form of a list or tuple, said of its elements.
use Rattle.std.specs.Prelude.{ℕ, ◌==◌, List, ◌++◌, length, map}
use Rattle.std.specs.List.{list_all}
use Rattle.jd_value.specs.Shown.{shown_inside, is_int, listed, kind_text, tuple_end}
use Rattle.jd_value.specs.Words.{mark_text}
use Rattle.jd_value.specs.declared.mark.Mark.TheVariants as m
use Rattle.jd_value.specs.declared.value.Value.{Value}

abbrev pub list_text : List Value → List ℕ
list_text values =
    kind_text (length values == 0) (list_all is_int values) ++ mark_text m.OpenBracket ++ listed (map shown_inside values) ++ mark_text m.CloseBracket

abbrev pub tuple_text : List Value → List ℕ
tuple_text values = mark_text m.Open ++ listed (map shown_inside values) ++ tuple_end (length values)
