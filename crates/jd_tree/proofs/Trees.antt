-- One part more at the end of a list of a tree.
use Rattle.std.proofs.Common.{◌≡◌, List, [], ◌∷◌, ◌++◌, map, refl, ap, ◌∙◌}
use Rattle.jd_grammar.specs.Trees.{Syntax, ending, binary, comprehension, matrix}
use Rattle.jd_tree.specs.declared.tree.Comprehension.{Comprehension, roll-Comprehension}
use Rattle.jd_tree.specs.declared.tree.Generator.{Generator}
use Rattle.jd_tree.specs.declared.tree.Matrix.{Matrix, roll-Matrix}
use Rattle.jd_tree.specs.declared.tree.Cell.{Cell}
use Rattle.jd_grammar.specs.declared.token.Token.{Token}
use Rattle.jd_tree.specs.declared.tree.Operation.{Operation, roll-Operation}
use Rattle.jd_tree.specs.declared.tree.Expr.{Expr}
use Rattle.jd_tree.specs.declared.tree.Expr.TheVariants as variant
use Rattle.jd_tree.proofs.Levels.{plain_binary, plain_one_operation, plain_comprehension_of, plain_matrix_of}
use Rattle.jd_tree.specs.declared.tree.Application.{Application}
use Rattle.jd_tree.specs.Plain.{plain, operated, apply, applied, plain_operation, plain_application, plain_generator, plain_cell, generators_of, cells_at}

pub operation_end : (e : Syntax) (os : List Operation) (o : Operation) →
    operated e (map plain_operation (os ++ (o ∷ []))) ≡ ending (binary (operated e (map plain_operation os)) (plain_operation o).0) (plain_operation o).1
operation_end e [] o = refl
operation_end e (p ∷ os) o = operation_end (ending (binary e (plain_operation p).0) (plain_operation p).1) os o

pub application_end : (e : Syntax) (os : List Application) (o : Application) → applied e (map plain_application (os ++ (o ∷ []))) ≡ apply (applied e (map plain_application os)) (plain_application o)
application_end e [] o = refl
application_end e (p ∷ os) o = application_end (apply e (plain_application p)) os o

-- what ends with an operator and its right operand
pub binary_whole : (first : Expr) (os : List Operation) (last : Operation) (left : Expr) (t : Token) (e : Expr) →
    operated (plain first) (map plain_operation os) ≡ plain left → last ≡ roll-Operation (record { operator = t; operand = e }) →
    plain (variant.Binary first os last) ≡ ending (binary (plain left) t) (plain e)
binary_whole first os last left t e h k =
    plain_binary first os last
    ∙ ap (λ (p : Token × Syntax). ending (binary (operated (plain first) (map plain_operation os)) p.0) p.1) (ap plain_operation k ∙ plain_one_operation t e)
    ∙ ap (λ l. ending (binary l t) (plain e)) h

pub comprehension_whole : (o : Token) (e : Expr) (gens : List Generator) (c : Token) (x : Comprehension) →
    x ≡ roll-Comprehension (record { opens = o; element = e; generators = gens; closes = c }) →
    plain (variant.Comprehension x) ≡ comprehension o (plain e) (generators_of (map plain_generator gens)) c
comprehension_whole o e gens c x h = ap (λ y. plain (variant.Comprehension y)) h ∙ plain_comprehension_of o e gens c

pub matrix_whole : (o : Token) (e : Expr) (cells : List Cell) (c : Token) (x : Matrix) →
    x ≡ roll-Matrix (record { opens = o; first = e; cells = cells; closes = c }) →
    plain (variant.Matrix x) ≡ matrix o (plain e) (cells_at (map plain_cell cells)) c
matrix_whole o e cells c x h = ap (λ y. plain (variant.Matrix y)) h ∙ plain_matrix_of o e cells c
