-- The ending of a run, as the program tells it.
use Rattle.std.proofs.Common.{◌≡◌, ℕ, List, Option, Some, None, Ok, sym, subst, inl, ◌∙◌}
use Rattle.std.specs.Prelude.{IfSome, MatchOption}
use Rattle.std.specs.Io.KnownBytes.{Keeps}
use Rattle.jd_value.specs.declared.fault.Fault.{Fault}
use Rattle.jd_value.specs.declared.tree.Program.{Program}
use Rattle.jd_model.specs.declared.ending.Ending.TheVariants as machine
use Rattle.jd_model.specs.declared.start.Start.{Start}
use Rattle.jd_model.specs.World.{Told}
use Rattle.jd_session.specs.declared.stop.End.{End}
use Rattle.jd_session.specs.declared.stop.End.TheVariants as end
use Rattle.jd_session.specs.Ends.{EndsAs, IsEarly as IsEarlyEnd}
use Rattle.jd_engine.specs.declared.status.Ending.{Ending}
use Rattle.jd_engine.specs.declared.status.Ending.TheVariants as ending
use Rattle.jd_source.specs.Content.{content_of}
use Rattle.jd_engine.specs.Words.{Command}
use Rattle.jd_engine.specs.Loading.{Tells, Loads}
use Rattle.jd_engine.specs.Headline.{RanTo, RunsOn, Runs, IsEarly, EndsLike, EndsInFault, start_of}

faulted : (p : Program) (st : Start) (fault : Fault) (e : Ending) (old new : Option (List ℕ)) (t : Told) → EndsAs p st (end.Ended (machine.Fault fault)) old new t → EndsInFault fault e → RanTo p st e old new t
faulted p st fault (ending.ScriptError text) old new t r l = (fault, r, l)
faulted p st fault ending.OutOfMemory old new t r l = r.0
faulted p st fault ending.Done old new t r l = absurd l
faulted p st fault ending.Usage old new t r l = absurd l
faulted p st fault (ending.ScriptRefused line kind) old new t r l = absurd l
faulted p st fault ending.ReadFault old new t r l = absurd l
faulted p st fault ending.WriteFault old new t r l = absurd l
faulted p st fault ending.FabricFault old new t r l = absurd l
faulted p st fault ending.Limit old new t r l = absurd l
faulted p st fault ending.Stalled old new t r l = absurd l

ran_to : (p : Program) (st : Start) (d : End) (e : Ending) (old new : Option (List ℕ)) (t : Told) → EndsAs p st d old new t → EndsLike d e → RanTo p st e old new t
ran_to p st (end.Ended machine.Normal) e old new t r l = subst (λ x. RanTo p st x old new t) (sym l) r
ran_to p st (end.Ended (machine.Fault fault)) e old new t r l = faulted p st fault e old new t r l
ran_to p st end.Write e old new t r l = subst (λ x. RanTo p st x old new t) (sym l) r
ran_to p st end.Fabric e old new t r l = subst (λ x. RanTo p st x old new t) (sym l) r
ran_to p st end.Limit e old new t r l = subst (λ x. RanTo p st x old new t) (sym l) r
ran_to p st end.Stalled e old new t r l = subst (λ x. RanTo p st x old new t) (sym l) r
ran_to p st end.OutOfMemory e old new t r l = subst (λ x. RanTo p st x old new t) (sym l) r

told_ran : (p : Program) (st : Start) (d : End) (e : Ending) (old new : Option (List ℕ)) (told : Option Told) → IfSome told (EndsAs p st d old new) → EndsLike d e → IfSome told (RanTo p st e old new)
told_ran p st d e old new None r l = tt
told_ran p st d e old new (Some t) r l = ran_to p st d e old new t r l

early : (d : End) (e : Ending) (told : Option Told) → IsEarlyEnd d told → EndsLike d e → IsEarly e told
early (end.Ended x) e told i l = absurd i
early end.Write e told i l = absurd i
early end.Stalled e told i l = absurd i
early end.Fabric e told i l = subst (λ x. IsEarly x told) (sym l) tt
early end.Limit e told i l = subst (λ x. IsEarly x told) (sym l) i
early end.OutOfMemory e told i l = subst (λ x. IsEarly x told) (sym l) tt

pub runs_on : (p : Program) (st : Start) (d : End) (e : Ending) (begun : Option Start) (told : Option Told) (old new : Option (List ℕ))
    → MatchOption begun (IsEarlyEnd d told × Keeps old new) (λ b. (b ≡ st) × IfSome told (EndsAs p st d old new)) → EndsLike d e → RunsOn p st e begun told old new
runs_on p st d e None told old new r l = (early d e told r.0 l, r.1)
runs_on p st d e (Some b) told old new r l = (r.0, told_ran p st d e old new told r.1 l)

-- the run of the program in the file that the words name
pub runs_named : (words : Option Command) (name content : List ℕ) (workers : ℕ) (files : Option (List (List ℕ × List ℕ))) (program : Program) (e : Ending) (begun : Option Start) (told : Option Told) (old new : Option (List ℕ))
    → Some (record { file = name; workers = workers }) ≡ words
    → ((kept : List (List ℕ × List ℕ)) (content : List ℕ) → files ≡ Some kept → content_of kept name ≡ Some content → Loads content (Ok program))
    → RunsOn program (start_of workers) e begun told old new
    → (c : Command) → words ≡ Some c → Tells files c.file content → Runs content c.workers e begun told old new
runs_named words name content workers files program e begun told old new asked loads ran c named tells =
    let both : Some (record { file = name; workers = workers }) ≡ Some c = asked ∙ named in
    let same : record { file = name; workers = workers } ≡ c = cc in
    subst (λ (c : Command). Tells files c.file content → Runs content c.workers e begun told old new) same (λ t. inl (program, loads t.0 content t.1 t.2, ran)) tells
