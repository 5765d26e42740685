-- A script that was read up to one byte past the limit.
use Rattle.std.proofs.Common.{inl, inr, ◌≡◌, ℕ, ◌+◌, ◌<◌, ◌≤◌, List, length, take, ◌∙◌, ap, sym, subst, arith, Option, Some, None, IfSome, Result, Ok, Err, length-take}
use Rattle.std.specs.Prelude.{◌⊎◌}
use Rattle.std.proofs.lemmas.Grind.{common_steps}
use Rattle.jd_source.specs.Content.{content_of, Opens, TakesAtMost}
use Rattle.jd_syntax.specs.Spelling.{Spells}
use Rattle.jd_syntax.specs.Refusal.{IsRefused, line_at}
use Rattle.jd_syntax.specs.declared.parsing.TheConstants.{MAX_SCRIPT}
use Rattle.jd_syntax.specs.declared.fault.ParseKind.{ParseKind}
use Rattle.jd_syntax.specs.declared.fault.ParseKind.TheVariants as kind
use Rattle.jd_value.specs.declared.tree.Program.{Program}
use Rattle.jd_engine.specs.declared.status.Ending.{Ending}
use Rattle.jd_engine.specs.declared.status.Ending.TheVariants as ending
use Rattle.jd_engine.specs.Loading.{NotLoaded, Loads}

module _ (m : ℕ) (content : List ℕ) where
  whole : length (take (m + 1) content) ≤ m → take (m + 1) content ≡ content
  whole h = grind (arith, common_steps, length-take (m + 1) content)

  longer : m < length (take (m + 1) content) → m < length content
  longer h = grind (arith, common_steps, length-take (m + 1) content)

same : (content : List ℕ) (k : ParseKind) (place : ℕ) → length (take (MAX_SCRIPT + 1) content) ≤ MAX_SCRIPT → IsRefused (take (MAX_SCRIPT + 1) content) k place
    → IsRefused content k place × (line_at (take (MAX_SCRIPT + 1) content) place ≡ line_at content place)
same content k place l h = let e = whole MAX_SCRIPT content l in (subst (λ c. IsRefused c k place) e h, ap (λ c. line_at c place) e)

refused_whole : (content : List ℕ) (k : ParseKind) (place : ℕ) → IsRefused (take (MAX_SCRIPT + 1) content) k place → IsRefused content k place × (line_at (take (MAX_SCRIPT + 1) content) place ≡ line_at content place)
refused_whole content kind.TooLong place h = ((longer MAX_SCRIPT content h.0, h.1), ap (line_at (take (MAX_SCRIPT + 1) content)) h.1 ∙ sym (ap (line_at content) h.1))
refused_whole content kind.Bytes place h = same content kind.Bytes place h.0 h
refused_whole content kind.Token place h = same content kind.Token place h.0.short h
refused_whole content kind.WideNumber place h = same content kind.WideNumber place h.0.short h
refused_whole content kind.TooDeep place h = same content kind.TooDeep place h.0.short h
refused_whole content kind.Form place h = same content kind.Form place h.0.short h

refuses_whole : (content : List ℕ) (line : ℕ) (k : ParseKind) → NotLoaded (take (MAX_SCRIPT + 1) content) (ending.ScriptRefused line k) → NotLoaded content (ending.ScriptRefused line k)
refuses_whole content line k (inl h) = let r = refused_whole content k h.0 h.1 in inl (h.0, r.0, h.2 ∙ r.1)
refuses_whole content line k (inr h) = inr (h.0, subst (λ c. Spells c h.0) (whole MAX_SCRIPT content h.1.text.short) h.1, h.2, h.3, h.4)

pub loads_whole : (content : List ℕ) (r : Result Program Ending) → Loads (take (MAX_SCRIPT + 1) content) r → Loads content r
loads_whole content (Ok program) h =
    record { script = h.script; spelled = subst (λ c. Spells c h.script) (whole MAX_SCRIPT content h.spelled.text.short) h.spelled; means = h.means }
loads_whole content (Err ending.Done) h = absurd h
loads_whole content (Err (ending.ScriptError text)) h = absurd h
loads_whole content (Err ending.Usage) h = absurd h
loads_whole content (Err (ending.ScriptRefused line k)) h = refuses_whole content line k h
loads_whole content (Err ending.ReadFault) h = h
loads_whole content (Err ending.WriteFault) h = absurd h
loads_whole content (Err ending.FabricFault) h = absurd h
loads_whole content (Err ending.Limit) h = absurd h
loads_whole content (Err ending.Stalled) h = absurd h
loads_whole content (Err ending.OutOfMemory) h = h

-- told files, an open name, and what was read of it
pub told_bytes : (files : Option (List (List ℕ × List ℕ))) (name : List ℕ) (left : Option (List ℕ)) (limit : ℕ) (bytes : List ℕ) (kept : List (List ℕ × List ℕ)) (content : List ℕ) →
    Opens files name left → IfSome left (λ xs. bytes ≡ take limit xs) → files ≡ Some kept → content_of kept name ≡ Some content → bytes ≡ take limit content
told_bytes None name left limit bytes kept content o r e f = cc
told_bytes (Some fs) name None limit bytes kept content o r e f = cc
told_bytes (Some fs) name (Some xs) limit bytes kept content o r e f =
    let same : fs ≡ kept = cc in
    let there : Some xs ≡ Some content = o.1 ∙ ap (λ k. content_of k name) same ∙ f in
    let content_is : xs ≡ content = cc in
    r ∙ ap (take limit) content_is

-- what was taken off an open file was taken off its content
pub taken_content : (files : Option (List (List ℕ × List ℕ))) (name : List ℕ) (left new : Option (List ℕ)) (limit : ℕ) (kept : List (List ℕ × List ℕ)) (content : List ℕ) →
    Opens files name left → TakesAtMost limit left new → files ≡ Some kept → content_of kept name ≡ Some content → TakesAtMost limit (Some content) new
taken_content None name left new limit kept content o t e f = cc
taken_content (Some fs) name left new limit kept content o t e f =
    let same : fs ≡ kept = cc in
    subst (λ k. TakesAtMost limit k new) (o.1 ∙ ap (λ k. content_of k name) same ∙ f) t
