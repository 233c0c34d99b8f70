-- Syntaxes of files.
use Rattle.std.proofs.Common.{◌≡◌, ◌≢◌, ℕ, suc, Bool, List, [], ◌∷◌, ◌++◌, length, refl, sym, ap, ◌∙◌, inl, inr, subst}
use Rattle.std.specs.Io.{StartsWith}
use Rattle.std.specs.Io.BufRead.{take_through}
use Rattle.std.specs.Prelude.{Option, Some, None, IfSome, IsUtf8, slice_get, find, reverse, ◌⊎◌}
use Rattle.std.specs.Option.{option_or}
use Rattle.std.proofs.lemmas.Bool.{cases_Bool}
use Rattle.std.proofs.lemmas.List.{reverse-append}
use Rattle.std.proofs.lemmas.Str.{IsUtf8-nil}
use Rattle.syntect_easy.specs.syntect_grammar.Finding.{found_for_file, found_plain_text, found_by_file_name, found_by_first_line}
use Rattle.syntect_easy.specs.syntect_grammar.Link.{syntaxes_in}
use Rattle.syntect_easy.specs.syntect_grammar_contexts.declared.syntax_reference.SyntaxReference.{SyntaxReference}
use Rattle.syntect_easy.specs.syntect_grammar.declared.syntax_set.SyntaxSet.{SyntaxSet}
use Rattle.syntect_easy.specs.syntect_grammar_loader.declared.definition.SyntaxDefinition.{SyntaxDefinition}
use Rattle.syntect_easy.specs.syntect_grammar.declared.error.Error.{Error}
use Rattle.syntect_easy.specs.syntect_grammar.declared.error.Error.TheVariants as error
use Rattle.syntect_easy.specs.Built.{IsBuilt, IsSyntaxOfBuilt}
use Rattle.syntect_easy.specs.syntect_base.Limiting.{limit_of, unlimited}
use Rattle.syntect_easy.specs.syntect_base.declared.limits.Limits.{Limits}
use Rattle.syntect_grammar_limits.specs.FirstLines.{ReachesSteps}
use Rattle.syntect_grammar_limits.specs.declared.first_line_error.FindWithinError.{FindWithinError}
use Rattle.syntect_grammar_limits.specs.declared.first_line_error.FindWithinError.TheVariants.{Refused, LimitReached}
use Rattle.syntect_grammar_limits.specs.declared.first_line_error.FirstLineLimit.{FirstLineLimit}
use Rattle.std.specs.IoError.{error_kind}
use Rattle.std.specs.Io.KnownBytes.{Keeps}
use Rattle.std.specs.declared.io.Error.{Error as IoError}
use Rattle.std.specs.declared.io.ErrorKind.{ErrorKind}
use Rattle.std.specs.declared.io.ErrorKind.TheVariants.{OutOfMemory}
use Rattle.syntect_easy.specs.syntect_base.Trees.{Answer, opened}
use Rattle.syntect_easy.specs.syntect_grammar.Passing.{from_kind, from_io}
use Rattle.syntect_easy.specs.Rows.{IsTextOf}
use Rattle.syntect_easy.specs.Files.{IsTextOfFile, IsSyntaxFor, IsSyntaxWithin, IsPlainInstead, IsToldSyntax, IsToldWithin, IsFirstOf, IsAskedOf, IsFrontFault, IsLineFault, HasNoLines, HasNoLinesWithin}
use Rattle.syntect_easy.specs.Leads.{LacksStart}
use Rattle.syntect_easy.specs.Pages.{IsReadFault, TellsNoText}

-- ---- what is found is among what is looked through ----

abbrev pub Among : {X : Type 0} → X → List X → Type 0
Among x [] = ⊥
Among x (y ∷ ys) = (y ≡ x) ⊎ Among x ys

among_found : {X : Type 0} (fits : X → Bool) (xs : List X) (x : X) → find fits xs ≡ Some x → Among x xs
among_found fits [] x e = absurd (let q : None ≡ Some x = e in cc)
among_found fits (y ∷ ys) x e =
    elim (cases_Bool (fits y)) [
      | inl f ↦ inl (let q : Some y ≡ Some x = rw (f) at e in cc)
      | inr f ↦ inr (among_found fits ys x (rw (f) at e))
    ]

among_append : {X : Type 0} (x : X) (xs ys : List X) → Among x (xs ++ ys) → Among x xs ⊎ Among x ys
among_append x [] ys h = inr h
among_append x (y ∷ xs) ys (inl e) = inl (inl e)
among_append x (y ∷ xs) ys (inr h) =
    elim (among_append x xs ys h) [
      | inl a ↦ inl (inr a)
      | inr b ↦ inr b
    ]

among_reverse : {X : Type 0} (x : X) (xs : List X) → Among x (reverse xs) → Among x xs
among_reverse x [] h = h
among_reverse x (y ∷ xs) h =
    elim (among_append x (reverse xs) (y ∷ []) (subst (Among x) (reverse-append (y ∷ []) xs) h)) [
      | inl a ↦ inr (among_reverse x xs a)
      | inr (inl e) ↦ inl e
      | inr (inr b) ↦ absurd b
    ]

place_of : {X : Type 0} (x : X) (xs : List X) → Among x xs → (place : ℕ) × (slice_get xs place ≡ Some x)
place_of x [] h = absurd h
place_of x (y ∷ xs) (inl e) = (0, ap Some e)
place_of x (y ∷ xs) (inr h) = let p = place_of x xs h in (suc p.0, p.1)

-- the place of a syntax that is found
pub place_found : {X : Type 0} (fits : X → Bool) (xs : List X) (x : X) → find fits (reverse xs) ≡ Some x → (place : ℕ) × (slice_get xs place ≡ Some x)
place_found fits xs x e = place_of x xs (among_reverse x xs (among_found fits (reverse xs) x e))

pub either_found : {X : Type 0} (a b : Option X) (x : X) (P : Type 0) → (a ≡ Some x → P) → (b ≡ Some x → P) → option_or a b ≡ Some x → P
either_found None b x P f g e = g e
either_found (Some y) b x P f g e = f e

-- ---- the syntax of a file ----

place_among : (set : SyntaxSet) (path line : List ℕ) (syntax : SyntaxReference) → option_or (found_for_file set path line) (found_plain_text set) ≡ Some syntax
    → (place : ℕ) × (slice_get (syntaxes_in set) place ≡ Some syntax)
place_among set path line syntax =
    let Q : Type 0 = (place : ℕ) × (slice_get (syntaxes_in set) place ≡ Some syntax) in
    either_found (found_for_file set path line) (found_plain_text set) syntax Q
    (either_found (found_by_file_name set path) (found_by_first_line set line) syntax Q
    (either_found _ _ syntax Q (place_found _ (syntaxes_in set) syntax) (place_found _ (syntaxes_in set) syntax))
    (place_found _ (syntaxes_in set) syntax))
    (place_found _ (syntaxes_in set) syntax)

is_syntax : (set : SyntaxSet) (path line : List ℕ) (syntax : SyntaxReference) → IsUtf8 line → option_or (found_for_file set path line) (found_plain_text set) ≡ Some syntax → IsSyntaxFor set path syntax
is_syntax set path line syntax u e =
    let p = place_among set path line syntax e in
    record { line = line; text = u; found = e; place = p.0; among = p.1 }

-- its path tells it
pub named_syntax : (set : SyntaxSet) (path : List ℕ) (syntax : SyntaxReference) → Some syntax ≡ found_by_file_name set path → IsSyntaxFor set path syntax
named_syntax set path syntax e = is_syntax set path [] syntax IsUtf8-nil (ap (λ found. option_or (option_or found (found_by_first_line set [])) (found_plain_text set)) (sym e))

-- its first line does
pub found_syntax : (set : SyntaxSet) (path line : List ℕ) (syntax : SyntaxReference) → IsUtf8 line → None ≡ found_by_file_name set path → Some syntax ≡ found_by_first_line set line → IsSyntaxFor set path syntax
found_syntax set path line syntax u e f =
    is_syntax set path line syntax u (ap (λ found. option_or (option_or found (found_by_first_line set line)) (found_plain_text set)) (sym e) ∙ ap (λ found. option_or found (found_plain_text set)) (sym f))

-- neither the path nor the first line tells a syntax
none_told : (set : SyntaxSet) (path line : List ℕ) → None ≡ found_by_file_name set path → None ≡ found_by_first_line set line → None ≡ found_for_file set path line
none_told set path line e f = f ∙ ap (λ found. option_or found (found_by_first_line set line)) e

pub plain_syntax : (set : SyntaxSet) (path line : List ℕ) (syntax : SyntaxReference) → IsUtf8 line → None ≡ found_by_file_name set path → None ≡ found_by_first_line set line → Some syntax ≡ found_plain_text set → IsSyntaxFor set path syntax
plain_syntax set path line syntax u n e f = is_syntax set path line syntax u (ap (λ found. option_or found (found_plain_text set)) (sym (none_told set path line n e)) ∙ sym f)

-- ---- what the first line that is left tells ----

-- the line is that of what the reader gave
pub asked_known : (left : Option (List ℕ)) (given line : List ℕ) → IfSome left (λ xs. StartsWith xs given) → IfSome left (λ xs. length given ≡ 0 → xs ≡ []) → IsFirstOf given line → IfSome left (λ xs. IsAskedOf xs line)
asked_known None given line f n a = tt
asked_known (Some xs) given line f n a = record { given = given; front = f; some = n; first = a }

module _ (set : SyntaxSet) (path : List ℕ) (left : Option (List ℕ)) (syntax : SyntaxReference) where
  nothing_asked : (o : Option (List ℕ)) → IfSome o (λ xs. StartsWith (take_through 10 xs) [])
  nothing_asked None = tt
  nothing_asked (Some xs) = refl

  pub told_by_name : Some syntax ≡ found_by_file_name set path → IsToldSyntax set path left syntax
  unfolding named_syntax is_syntax
  told_by_name e = record {
    is_for = named_syntax set path syntax e;
    front = nothing_asked left;
    asked = λ n. absurd (let q : None ≡ Some syntax = n ∙ sym e in cc);
  }

  pub told_by_line : (line : List ℕ) → IsUtf8 line → IfSome left (λ xs. StartsWith (take_through 10 xs) line) → IfSome left (λ xs. IsAskedOf xs line) → None ≡ found_by_file_name set path → Some syntax ≡ found_by_first_line set line
      → IsToldSyntax set path left syntax
  unfolding found_syntax is_syntax
  told_by_line line u h a e f = record { is_for = found_syntax set path line syntax u e f; front = h; asked = λ n. a }

  pub told_by_none : (line : List ℕ) → IsUtf8 line → IfSome left (λ xs. StartsWith (take_through 10 xs) line) → IfSome left (λ xs. IsAskedOf xs line) → None ≡ found_by_file_name set path → None ≡ found_by_first_line set line
      → Some syntax ≡ found_plain_text set → IsToldSyntax set path left syntax
  unfolding plain_syntax is_syntax
  told_by_none line u h a n e f = record { is_for = plain_syntax set path line syntax u n e f; front = h; asked = λ m. a }

-- ---- no lines ----

-- the faults of a file that was opened are faults of the file
pub faults_in : (Faults Others : IoError → Type 0) → ((e : IoError) → Faults e → Others e) → (set : SyntaxSet) (path : List ℕ) (e : Error) → HasNoLines Faults set path e → HasNoLines Others set path e
faults_in Faults Others any set path (error.Io e) h = any e h
faults_in Faults Others any set path error.Memory h = h
faults_in Faults Others any set path (error.ParsingError e) h = h
faults_in Faults Others any set path (error.ScopeError e) h = h
faults_in Faults Others any set path (error.LoadingError e) h = h
faults_in Faults Others any set path (error.Fmt e) h = h
faults_in Faults Others any set path error.NoSyntax h = h
faults_in Faults Others any set path (error.ParseSyntax e) h = h
faults_in Faults Others any set path (error.ParseScope e) h = h
faults_in Faults Others any set path (error.Pattern e) h = h

faults_of_kind : (Faults : IoError → Type 0) (set : SyntaxSet) (path : List ℕ) (kind : ErrorKind) (e : IoError) → Faults e → HasNoLines Faults set path (from_kind kind e)
faults_of_kind Faults set path OutOfMemory e h = tt
faults_of_kind Faults set path kind e h = h

-- one fault of a file
pub one_fault : (Faults : IoError → Type 0) (set : SyntaxSet) (path : List ℕ) (e : IoError) (r : Error) → r ≡ from_io e → Faults e → HasNoLines Faults set path r
one_fault Faults set path e r q h = subst (HasNoLines Faults set path) (sym q) (faults_of_kind Faults set path (error_kind e) e h)

-- the front of a file's first line is not UTF-8
pub front_no_text : (Told : Answer → Type 0) (limits : Limits) (set : SyntaxSet) (path : List ℕ) (left : Option (List ℕ)) (given : List ℕ) → IfSome left (λ xs. StartsWith xs given) → (e : Error) → ¬ (IsUtf8 (take_through 10 given)) → IsReadFault TellsNoText e
    → HasNoLinesWithin (IsFrontFault Told path left) limits set path e
front_no_text Told limits set path left given f (error.ParsingError e) u h = absurd h
front_no_text Told limits set path left given f error.Memory u h = inl tt
front_no_text Told limits set path left given f (error.ScopeError e) u h = absurd h
front_no_text Told limits set path left given f (error.Fmt e) u h = absurd h
front_no_text Told limits set path left given f (error.Io e) u h = inl (inr (h, given, f, u))
front_no_text Told limits set path left given f (error.LoadingError e) u h = absurd h
front_no_text Told limits set path left given f error.NoSyntax u h = absurd h
front_no_text Told limits set path left given f (error.ParseSyntax e) u h = absurd h
front_no_text Told limits set path left given f (error.ParseScope e) u h = absurd h
front_no_text Told limits set path left given f (error.Pattern e) u h = absurd h

-- ---- first lines within limits ----

-- where the limit was reached
pub plain_instead : (limits : Limits) (set : SyntaxSet) (path : List ℕ) (syntax : SyntaxReference) → limit_of limits.steps ≢ None → None ≡ found_by_file_name set path → Some syntax ≡ found_plain_text set → IsPlainInstead limits set path syntax
plain_instead limits set path syntax n e f =
    let p = place_found _ (syntaxes_in set) syntax (sym f) in
    record { limited = n; unnamed = sym e; plain = sym f; place = p.0; among = p.1 }

pub reached_is_set : (limits : Limits) (steps : ℕ) (w : FindWithinError) (l : FirstLineLimit) → w ≡ LimitReached l → ReachesSteps limits steps w → limit_of limits.steps ≢ None
reached_is_set limits steps (Refused e) l same r = λ n. cc
reached_is_set limits steps (LimitReached x) l same r = λ n. let q : None ≡ Some steps = sym n ∙ r in cc

-- no limit is reached without limits
none_reached : (limits : Limits) → limits ≡ unlimited → limit_of limits.steps ≢ None → ⊥
none_reached limits e n = n (ap (λ (l : Limits). limit_of l.steps) e)

pub told_unlimited : (limits : Limits) (set : SyntaxSet) (path : List ℕ) (left : Option (List ℕ)) (syntax : SyntaxReference) (o : Option FirstLineLimit) → limits ≡ unlimited → IsToldWithin limits set path left syntax o → IsToldSyntax set path left syntax
told_unlimited limits set path left syntax None e h = h
told_unlimited limits set path left syntax (Some l) e h = absurd (none_reached limits e h.limited)

pub refused_unlimited : (Faults : IoError → Type 0) (limits : Limits) (set : SyntaxSet) (path : List ℕ) (e : Error) → limits ≡ unlimited → HasNoLinesWithin Faults limits set path e → HasNoLines Faults set path e
refused_unlimited Faults limits set path e same (inl h) = h
refused_unlimited Faults limits set path e same (inr h) = absurd (none_reached limits same h.limited)

pub told_is_for : (limits : Limits) (set : SyntaxSet) (path : List ℕ) (left : Option (List ℕ)) (syntax : SyntaxReference) (o : Option FirstLineLimit) → IsToldWithin limits set path left syntax o → IsSyntaxWithin limits set path syntax o
told_is_for limits set path left syntax None h = h.is_for
told_is_for limits set path left syntax (Some l) h = h

pub faults_within : (Faults Others : IoError → Type 0) → ((e : IoError) → Faults e → Others e) → (limits : Limits) (set : SyntaxSet) (path : List ℕ) (e : Error) → HasNoLinesWithin Faults limits set path e → HasNoLinesWithin Others limits set path e
faults_within Faults Others any limits set path e (inl h) = inl (faults_in Faults Others any set path e h)
faults_within Faults Others any limits set path e (inr h) = inr h

-- a fault that is passed on is one of the file
pub fault_within : (Faults : IoError → Type 0) (limits : Limits) (set : SyntaxSet) (path : List ℕ) (x : IoError) (e : Error) → e ≡ error.Io x → HasNoLinesWithin Faults limits set path e → Faults x
fault_within Faults limits set path x e q (inl h) = subst (HasNoLines Faults set path) q h
fault_within Faults limits set path x e q (inr h) =
    elim h.lacks [
      | inl p ↦ absurd (let z : error.NoSyntax ≡ error.Io x = sym p.1 ∙ q in cc)
      | inr p ↦ absurd (subst (LacksStart p.0) q p.2)
    ]

-- ---- pages ----

pub built_of : (set : SyntaxSet) (path : List ℕ) (syntax : SyntaxReference) (definitions : List SyntaxDefinition) → IsBuilt set definitions → IsSyntaxFor set path syntax → IsSyntaxOfBuilt set syntax definitions
built_of set path syntax definitions b s = record { links = b.links; place = s.place; among = s.among; plain = b.plain }

pub built_within : (limits : Limits) (set : SyntaxSet) (path : List ℕ) (syntax : SyntaxReference) (o : Option FirstLineLimit) (definitions : List SyntaxDefinition) → IsBuilt set definitions → IsSyntaxWithin limits set path syntax o → IsSyntaxOfBuilt set syntax definitions
built_within limits set path syntax None definitions b s = built_of set path syntax definitions b s
built_within limits set path syntax (Some l) definitions b s = record { links = b.links; place = s.place; among = s.among; plain = b.plain }

pub built_told : (limits : Limits) (set : SyntaxSet) (path : List ℕ) (left : Option (List ℕ)) (syntax : SyntaxReference) (o : Option FirstLineLimit) (definitions : List SyntaxDefinition) → IsBuilt set definitions → IsToldWithin limits set path left syntax o → IsSyntaxOfBuilt set syntax definitions
built_told limits set path left syntax o definitions b t = built_within limits set path syntax o definitions b (told_is_for limits set path left syntax o t)

-- the text of a reader is that of what its file had
pub text_kept : (left seen : Option (List ℕ)) (text : List ℕ) → Keeps left seen → IsTextOf seen text → IsTextOf left text
text_kept None seen text k t = tt
text_kept (Some xs) None text k t = absurd k
text_kept (Some xs) (Some ys) text k t = t ∙ k

-- and so are the faults of its lines
pub line_fault_kept : (Failed : IoError → Type 0) (left seen : Option (List ℕ)) → Keeps left seen → (e : IoError) → IsLineFault Failed seen e → IsLineFault Failed left e
line_fault_kept Failed left seen k e (inl f) = inl f
line_fault_kept Failed left seen k e (inr h) = inr (h.0, h.1, text_kept left seen h.1 k h.2, h.3)

module _ (Told : Answer → Type 0) (set : SyntaxSet) (path : List ℕ) (syntax : SyntaxReference) (left seen : Option (List ℕ)) (told : Told (opened path left)) (kept : Keeps left seen) (by : IsToldSyntax set path left syntax) where
  pub text_of_file : (text : List ℕ) → IsTextOf seen text → IsTextOfFile Told set path syntax text
  text_of_file text t = record { left = left; told = told; told_by = by; whole = text_kept left seen text kept t }
