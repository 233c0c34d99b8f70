-- Steps of reading the value of a grammar: each finds something and leaves what has been read so
-- far, or refuses. The first refusal is the answer.
use Rattle.std.specs.Prelude.{◌≡◌, ℕ, List, [], ◌∷◌, length, take, Option, Some, None, Result, Ok, Err, string_bytes}
use Rattle.syntect_grammar_loader.specs.syntect_scope.declared.repository.ParseScopeError.{ParseScopeError}
use Rattle.syntect_grammar_loader.specs.syntect_scope.declared.repository.ParseScopeError.TheVariants.{TooLong, TooManyAtoms}
use Rattle.syntect_grammar_loader.specs.syntect_scope.declared.repository.ParseScopeError.TheVariants as ScopeError
use Rattle.syntect_grammar_loader.specs.syntect_pattern.declared.error.PatternError.{PatternError}
use Rattle.syntect_base.specs.declared.syntax.ParseSyntaxError.{ParseSyntaxError}
use Rattle.syntect_base.specs.declared.syntax.ParseSyntaxError.TheVariants.{InvalidYaml, EmptyFile, MissingMandatoryKey, RegexCompileError, InvalidScope, BadFileRef, MainMissing, TypeMismatch, Memory}
use Rattle.syntect_grammar_loader.specs.declared.yaml_load_state.Reading.{Reading}

-- why a text is no grammar
pub data Refusal : Type 0 where
  no_node : Refusal
  no_value : Refusal
  missing : List ℕ → Refusal
  no_pattern : List ℕ → PatternError → Refusal
  no_scope : ParseScopeError → Refusal
  no_file : Refusal
  no_main : Refusal
  wrong_kind : Refusal

-- what an error says of the text; lack of memory says nothing
abbrev pub refusal_of_error : ParseSyntaxError → Option Refusal
refusal_of_error InvalidYaml = Some no_value
refusal_of_error EmptyFile = Some no_node
refusal_of_error (MissingMandatoryKey key) = Some (missing key.now)
refusal_of_error (RegexCompileError text e) = Some (no_pattern (string_bytes text) e)
refusal_of_error (InvalidScope e) = Some (no_scope e)
refusal_of_error BadFileRef = Some no_file
refusal_of_error MainMissing = Some no_main
refusal_of_error TypeMismatch = Some wrong_kind
refusal_of_error Memory = None

-- the error is the answer's refusal, unless memory ran out
abbrev pub Fails : {B : Type 0} → Result B Refusal → ParseSyntaxError → Type 0
Fails answer e = (r : Refusal) → refusal_of_error e ≡ Some r → answer ≡ Err r

-- The result, seen by f, is what the definition answers; an error is its refusal, unless memory
-- ran out. What has been read stays.
abbrev pub Finds : {A B : Type 0} → (A → B) → Result A ParseSyntaxError → Result B Refusal → Type 0
Finds f (Ok a) answer = answer ≡ Ok (f a)
Finds f (Err e) answer = Fails answer e

-- the atoms of a repository that begins with these keep their numbers
abbrev pub Begins : List (List ℕ) → List (List ℕ) → Type 0
Begins old repository = take (length old) repository ≡ old

-- the repository after begins with all that begins the one before, so atoms keep their numbers
abbrev pub KeepsAtoms : List (List ℕ) → List (List ℕ) → Type 0
KeepsAtoms before after = (old : List (List ℕ)) → Begins old before → Begins old after

-- ---- steps ----

-- a step: from what has been read so far, what it finds and what has been read then; or a refusal
abbrev pub Step : Type 0 → Type 0
Step A = Reading → Result (A × Reading) Refusal

-- nothing more is read
abbrev pub give : {A : Type 0} → A → Step A
give a s = Ok (a, s)

-- a step that refuses, whatever has been read
abbrev pub refuse : {A : Type 0} → Refusal → Step A
refuse r s = Err r

-- the step that f makes of what was found, from what has been read; a refusal stays
abbrev pub on : {A B : Type 0} → Result (A × Reading) Refusal → (A → Step B)
    → Result (B × Reading) Refusal
on (Ok p) f = f p.0 p.1
on (Err r) f = Err r

-- one step after another
infixl 10 ◌>>=◌
-- the step m, and then the one that f makes of what m finds; if m refuses, that is the answer
abbrev pub ◌>>=◌ : {A B : Type 0} → Step A → (A → Step B) → Step B
m >>= f = λ s. on (m s) f

-- what is found without reading more
abbrev pub found_in : {A : Type 0} → Result A Refusal → Step A
found_in (Ok a) s = Ok (a, s)
found_in (Err r) s = Err r

-- what f finds in what has been read so far, without reading more
abbrev pub finding : {A : Type 0} → (Reading → Result A Refusal) → Step A
finding f s = found_in (f s) s

-- what stands there, or this refusal
abbrev pub known : {A : Type 0} → Refusal → Option A → Step A
known r None = refuse r
known r (Some a) = give a

-- a step for what may stand there, else this
abbrev pub perhaps : {A B : Type 0} → (A → Step B) → B → Option A → Step B
perhaps f b None = give b
perhaps f b (Some a) = f a

-- a step for each of a list, in order, from b on
abbrev pub each : {A B : Type 0} → (B → A → Step B) → B → List A → Step B
each f b [] = give b
each f b (x ∷ xs) = λ s. on (f b x s) (λ c. each f c xs)

-- ---- For proofs and private functions alone ----

-- what the refusal of a scope's text says of the text
abbrev pub scope_seen : ParseScopeError → Option Refusal
scope_seen TooLong = Some (no_scope TooLong)
scope_seen TooManyAtoms = Some (no_scope TooManyAtoms)
scope_seen ScopeError.Memory = None

-- the result, seen by f, and what has been read after it, are the answer, unless memory ran out
abbrev pub Gives : {A B : Type 0} → (A → B) → Result A ParseSyntaxError → Reading
    → Result (B × Reading) Refusal → Type 0
Gives f (Ok a) after answer = answer ≡ Ok (f a, after)
Gives f (Err e) after answer = Fails answer e
