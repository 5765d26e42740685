use Rattle.std.proofs.Common.{◌≡◌, ◌&&◌, ◌++◌, ◌∷◌, [], map, ap, ◌∙◌}
use Rattle.std.specs.List.{list_all}
use Rattle.jd_grammar.specs.Kinds.{is_name}
use Rattle.jd_grammar.specs.Grammar.{name_of}
use Rattle.jd_tree.specs.Plain.{plain, plain_item}
use Rattle.jd_tree.specs.Keys.{key_of, are_apart}
use Rattle.jd_tree.proofs.Naming.{item_name, item_key, map_keys, all_keys, names_differ}
use Rattle.jd_tree.proofs.names.are_different.Goals as goal

pub returns : goal.returns
returns c =
    let xs = map plain_item c.args.items.now in
    let named : c.both-named.result ≡ (list_all (λ x. is_name (item_name x)) xs && is_name (name_of (plain c.args.last.now))) =
    c.both-named.ensures ∙ ap (λ b. b && c.is_name.result) (c.are_names.ensures ∙ all_keys c.args.items.now)
    ∙ ap (λ b. list_all (λ x. is_name (item_name x)) xs && b) (c.is_name.ensures ∙ ap is_name c.name_of-last.ensures) in
    let apart : c.in_ok-apart.apart ≡ are_apart (map item_key xs ++ (key_of (name_of (plain c.args.last.now)) ∷ [])) =
    c.in_ok-apart.ensures ∙ ap are_apart (c.deref.ensures.value ∙ c.in_ok-numbers.ensures
    ∙ ap (λ ks. ks ++ (key_of c.name_of-last.result ∷ [])) (map_keys c.args.items.now) ∙ ap (λ k. map item_key xs ++ (key_of k ∷ [])) c.name_of-last.ensures) in
    c.both.ensures ∙ ap (λ b. b && c.in_ok-apart.apart) named
    ∙ ap (λ b. (list_all (λ x. is_name (item_name x)) xs && is_name (name_of (plain c.args.last.now))) && b) apart
    ∙ names_differ xs (plain c.args.last.now)
