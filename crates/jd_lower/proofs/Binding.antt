-- The names that lines bind.
use Rattle.std.proofs.Common.{◌≡◌, Bool, List, [], ◌∷◌, map, option_map, refl, sym, ap, ◌∙◌}
use Rattle.jd_grammar.specs.declared.token.Token.{Token}
use Rattle.jd_grammar.specs.Script.{Lines, no_lines, line, Place}
use Rattle.jd_script.specs.declared.tree.Block as code-block
use Rattle.jd_script.specs.declared.tree.Block.{out-Block, roll-out-Block}
use Rattle.jd_script.specs.PlainScript.{lines_from, place_of, plain_stmt, plain_line, plain_block}
use Rattle.jd_script.proofs.Statements.{one_block}
use Rattle.jd_lower.specs.Scopes.{bind_place, bind_lines, bind_after, bind_block}

all_lines : (bound : List Bool) (ls : Lines) (ms : List (Place × Token)) → bind_lines bound (lines_from ls ms) ≡ bind_after (bind_lines bound ls) ms
all_lines bound ls [] = refl
all_lines bound ls (m ∷ ms) = all_lines bound (line ls m.0 m.1) ms

pub bound_block : (bound : List Bool) (b : code-block.Block) →
    bind_block bound (plain_block b) ≡ bind_place (bind_after bound (map plain_line (out-Block b).lines)) (place_of (option_map plain_stmt (out-Block b).last))
bound_block bound b =
    ap (λ x. bind_block bound (plain_block x)) (sym (roll-out-Block b)) ∙ ap (bind_block bound) (one_block (out-Block b).lines (out-Block b).last)
    ∙ ap (λ x. bind_place x (place_of (option_map plain_stmt (out-Block b).last))) (all_lines bound no_lines (map plain_line (out-Block b).lines))
