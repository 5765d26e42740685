use Rattle.std.proofs.Common.{◌≡◌, not, true, sym, ap, ◌∙◌, nat_cmp}
use Rattle.std.specs.BTreeSet.{contains}
use Rattle.jd_grammar.specs.Kinds.{is_name}
use Rattle.jd_tree.specs.Keys.{key_of}
use Rattle.jd_script.specs.PlainScript.{plain_parameters}
use Rattle.jd_script.proofs.Definitions.{fresh_key, other_fresh}
use Rattle.jd_script.proofs.parameters.is_fresh.Goals as goal

pub returns-then-is_name : goal.returns-then-is_name
returns-then-is_name c =
    let named : is_name c.args.kind ≡ true = sym c.is_name.ensures ∙ c.if-is_name.true in
    ap not (c.contains.ensures ∙ ap (contains nat_cmp c.args.parameters.now.keys) c.key_of.ensures ∙ c.args.parameters.now.named (key_of c.args.kind))
    ∙ fresh_key c.args.kind (plain_parameters c.args.parameters.now.parameters) named

pub returns-else-is_name : goal.returns-else-is_name
returns-else-is_name c = other_fresh c.args.kind (plain_parameters c.args.parameters.now.parameters) (sym c.is_name.ensures ∙ c.if-is_name.false)
