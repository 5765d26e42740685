use Rattle.std.proofs.Common.{◌≡◌, ◌&&◌, map, length, nat_eq, ap, ◌∙◌}
use Rattle.std.specs.Prelude.{option_map}
use Rattle.jd_grammar.specs.Kinds.{is_name}
use Rattle.jd_grammar.specs.Grammar.{name_of, is_list_of_names}
use Rattle.jd_grammar.specs.Script.{are_commas}
use Rattle.jd_tree.specs.Plain.{plain, plain_item, items_of, maybe}
use Rattle.jd_tree.proofs.Naming.{all_commas, signature_is}
use Rattle.jd_tree.proofs.names.is_definition.Goals as goal

pub returns : goal.returns
returns c = λ o d.
    let most = items_of (map plain_item c.args.items.now) in
    let last = maybe (option_map plain c.args.last.now) in
    let listed : c.both-listed.result ≡ (are_commas most && is_list_of_names most last) =
    c.both-listed.ensures ∙ ap (λ b. b && c.in_ok-differ.differ) (c.are_commas.ensures ∙ all_commas c.args.items.now) ∙ ap (λ b. are_commas most && b) c.in_ok-differ.ensures in
    c.both.ensures ∙ ap (λ b. b && c.both-listed.result) c.is_named.ensures
    ∙ ap (λ b. (nat_eq (length c.args.before.now) 0 && is_name (name_of (plain c.args.callee.now))) && b) listed
    ∙ signature_is (plain c.args.callee.now) c.args.before.now o most last d
