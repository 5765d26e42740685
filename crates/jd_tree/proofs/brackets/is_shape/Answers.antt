use Rattle.std.proofs.Common.{map, sym, ap, ◌∙◌, arith}
use Rattle.jd_grammar.specs.Grammar.{is_shape}
use Rattle.jd_grammar.specs.Trees.{just, nothing}
use Rattle.jd_tree.specs.Plain.{plain_item}
use Rattle.jd_tree.specs.Code.{plain_measured, plain_bracket, plain_maybe, plain_arguments}
use Rattle.jd_tree.proofs.Lists.{shape_grouped, shape_called, shape_itemed, shape_many, length_items}
use Rattle.jd_tree.proofs.brackets.is_shape.Goals as goal

pub returns-then-count-gt0 : goal.returns-then-count-gt0
returns-then-count-gt0 c =
    shape_many (map plain_item c.args.most.now.items) (plain_measured c.in-Some.last) (omega (arith, length_items c.args.most.now.items))
    ∙ ap (λ b. is_shape (plain_bracket b) (plain_arguments c.args.most.now) (just (plain_measured c.in-Some.last))) (sym c.in-Itemed.is)
    ∙ ap (λ l. is_shape (plain_bracket c.args.bracket.now) (plain_arguments c.args.most.now) (plain_maybe l)) (sym c.in-Some.is)

pub returns-in-Grouped-bracket : goal.returns-in-Grouped-bracket
returns-in-Grouped-bracket c =
    shape_grouped (map plain_item c.args.most.now.items) c.len-count.result (c.len-count.ensures ∙ sym (length_items c.args.most.now.items))
    ∙ ap (λ b. is_shape (plain_bracket b) (plain_arguments c.args.most.now) nothing) (sym c.in-Grouped-bracket.is)
    ∙ ap (λ l. is_shape (plain_bracket c.args.bracket.now) (plain_arguments c.args.most.now) (plain_maybe l)) (sym c.in-None.is)

pub returns-in-Called : goal.returns-in-Called
returns-in-Called c =
    shape_called (plain_measured c.in-Called.field-0) (map plain_item c.args.most.now.items) c.len-count.result (c.len-count.ensures ∙ sym (length_items c.args.most.now.items))
    ∙ ap (λ b. is_shape (plain_bracket b) (plain_arguments c.args.most.now) nothing) (sym c.in-Called.is)
    ∙ ap (λ l. is_shape (plain_bracket c.args.bracket.now) (plain_arguments c.args.most.now) (plain_maybe l)) (sym c.in-None.is)

pub returns-in-Itemed-bracket : goal.returns-in-Itemed-bracket
returns-in-Itemed-bracket c =
    shape_itemed (map plain_item c.args.most.now.items) c.len-count.result (c.len-count.ensures ∙ sym (length_items c.args.most.now.items))
    ∙ ap (λ b. is_shape (plain_bracket b) (plain_arguments c.args.most.now) nothing) (sym c.in-Itemed-bracket.is)
    ∙ ap (λ l. is_shape (plain_bracket c.args.bracket.now) (plain_arguments c.args.most.now) (plain_maybe l)) (sym c.in-None.is)
