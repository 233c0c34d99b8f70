-- Answers of values, one after another.
use Rattle.std.proofs.Common.{◌≡◌, ℕ, List, [], refl, sym, ap, subst, Option, Some, None}
use Rattle.std.specs.Prelude.{Result, Ok, Err, codes}
use Rattle.std.specs.Option.{ok_or}
use Rattle.std.specs.Result.{result_ok}
use Rattle.serde_json.specs.Data.{Data, Items}
use Rattle.serde_json.specs.Find.{get}
use Rattle.syntect_theme_files.specs.syntect_base.declared.theme.ParseThemeError.{ParseThemeError}
use Rattle.syntect_theme_files.specs.syntect_base.declared.theme.ParseThemeError.TheVariants.{Memory}
use Rattle.syntect_theme.specs.declared.theme.Theme.{Theme}
use Rattle.syntect_theme.specs.declared.theme.ThemeItem.{ThemeItem}
use Rattle.syntect_theme_files.specs.Loading.{own_text, items_at, first_settings, head_in}
use Rattle.syntect_theme_files.specs.Refusals.{RefusesExactly}

pub ok_of : {X E : Type 0} (o : Option X) (e : E) → result_ok (ok_or o e) ≡ o
ok_of (Some x) e = refl
ok_of None e = refl

-- the refusal of the first settings is that of what stands round the rules
pub head_refused : (d : Data) (name author : Option (List ℕ)) (ds : Items) (e : ParseThemeError) → own_text (get (codes "name") d) ≡ Ok name → own_text (get (codes "author") d) ≡ Ok author → items_at d ≡ Ok ds → first_settings ds ≡ Err e → head_in d ≡ Err e
head_refused d name author ds e a b i f = rw (a, b, i, f) refl

pub without_rules : (t : Theme) → t.scopes ≡ [] → t ≡ record t { scopes = [] }
without_rules t e = ap (λ (s : List ThemeItem). record t { scopes = s }) e

-- ---- refusals ----

-- the answer is this refusal
pub refused_so : {X : Type 0} (answer : Result X ParseThemeError) (e : ParseThemeError) → answer ≡ Err e → RefusesExactly answer e
refused_so answer e q = subst (λ (r : Result _ ParseThemeError). RefusesExactly r e) (sym q) refl

-- there is an answer, and memory ran out
pub memory_alone : {X : Type 0} (answer : Result X ParseThemeError) (x : X) → answer ≡ Ok x → RefusesExactly answer Memory
memory_alone answer x q = subst (λ (r : Result _ ParseThemeError). RefusesExactly r Memory) (sym q) refl
