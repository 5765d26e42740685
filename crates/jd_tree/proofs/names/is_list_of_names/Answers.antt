use Rattle.std.proofs.Common.{map, sym, ap, ◌∙◌}
use Rattle.jd_grammar.specs.Grammar.{is_list_of_names}
use Rattle.jd_tree.specs.Plain.{plain, plain_item, items_of, maybe}
use Rattle.std.specs.Prelude.{option_map}
use Rattle.jd_tree.proofs.Naming.{no_names}
use Rattle.jd_tree.proofs.names.is_list_of_names.Goals as goal

pub returns-in-None : goal.returns-in-None
returns-in-None c = c.is_empty.ensures ∙ no_names c.args.items.now
    ∙ ap (λ l. is_list_of_names (items_of (map plain_item c.args.items.now)) (maybe (option_map plain l))) (sym c.in-None.is)
