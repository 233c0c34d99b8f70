-- Texts and what they become.
use Rattle.std.proofs.Common.{◌≡◌, [], ◌∷◌, ℕ, List, true, false, refl}
use Rattle.std.specs.Prelude.{codes, Bool}
use Rattle.std.specs.List.{list_all}
use Rattle.std.specs.Str.{bytes_eq}
use Prim.Native.String.{String}
use Rattle.syntect_grammar_rewrite.specs.Cutting.{parts, sign_len, sign}
use Rattle.syntect_grammar_rewrite.specs.Variables.{Variables, is_use, expanded}
use Rattle.syntect_grammar_rewrite.specs.Replacing.{with_replacements}
use Rattle.syntect_grammar_rewrite.specs.Tokens.{class_len, takes_newline, token_len, token}
use Rattle.syntect_grammar_rewrite.specs.Newlines.{anchored, ended}
use Rattle.syntect_grammar_rewrite.specs.Testing.{tested_text}
use Rattle.syntect_grammar_rewrite.specs.Rewriting.{rewritten}

abbrev rows : (List ℕ → List ℕ) → List (String × String) → Bool
rows f rs = list_all (λ r. bytes_eq (f (codes r.0)) (codes r.1)) rs

abbrev variables : Variables
variables = (codes "ident", codes "[QY]+") ∷ (codes "v", codes "a{{v}}") ∷ (codes "w", codes "<{{u}}>") ∷ (codes "u", codes "({{w}})") ∷ []

pub with_newlines : rows (rewritten variables true)
    (("a$", "a(?m:$)") ∷ ("[$]\\$", "[$]\\$") ∷ ("{{ident}}{{none}}", "[QY]+") ∷ ("{{v}}", "a") ∷ ("{{w}}{{u}}", "<()>(<>)")
    ∷ ("[[:alpha:]]", "[\\p{L}]") ∷ ("[[:alnum:][:lower:]][:digit:][:upper:][:alpha]", "[\\p{L}\\p{N}\\p{Ll}]\\p{Nd}\\p{Lu}[:alpha]") ∷ ("a\\n", "a\\n")
    ∷ ("[]$]$[^]$]\\[$", "[]$](?m:$)[^]$]\\[(?m:$)") ∷ ("[a[$]$]$", "[a[$]$](?m:$)") ∷ ("[$", "[$") ∷ ("{{{ident}}}", "{[QY]+}") ∷ []) ≡ true
unfolding parts sign_len sign is_use expanded with_replacements class_len takes_newline token_len token anchored ended rewritten
with_newlines = refl

pub without_newlines : rows (rewritten variables false)
    (("a\\n", "a$") ∷ ("a\\n?", "a\\n?") ∷ ("\\n+\\n*", "\\n+\\n*") ∷ ("[^x\\n]", "[^x\\n]") ∷ ("[x\\n]?", "[x\\n]?") ∷ ("[x\\n]", "(?:[x\\n]|$)")
    ∷ ("(?:\\n)?", "(?:$|)") ∷ ("[(?:\\n)?]", "(?:[(?:\\n)?]|$)") ∷ ("a\\(?:\\n)?", "a\\(?:$)?") ∷ ("a$", "a$") ∷ ("[x[\\n]]", "[x[\\n]]") ∷ ("\\\\n", "\\\\n") ∷ ("[\\\\n]", "[\\\\n]") ∷ ("[]\\n]", "(?:[]\\n]|$)") ∷ ("[\\]\\n]", "(?:[\\]\\n]|$)") ∷ ("[\\n", "(?:[\\n|$)") ∷ []) ≡ true
unfolding parts sign_len sign is_use expanded with_replacements class_len takes_newline token_len token anchored ended rewritten
without_newlines = refl

pub tests : rows tested_text
    (("a\\1b", "a<placeholder_1>b") ∷ ("\\\\1", "\\\\1") ∷ ("\\a\\", "\\a\\") ∷ ("\\12", "<placeholder_1>2") ∷ []) ≡ true
unfolding parts sign_len sign tested_text
tests = refl
