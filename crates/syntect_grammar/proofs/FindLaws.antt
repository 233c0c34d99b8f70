-- The last of a list that fits, and a byte order mark.
use lib.Utf8.{encode}
use Rattle.std.proofs.Common.{◌≡◌, ◌==◌, ℕ, ◌+◌, ◌<◌, Bool, true, List, [], ◌∷◌, ◌++◌, length, reverse, take, get_or, find, refl, sym, ap, ◌∙◌, subst, arith, Option, None, Some, if◌then◌else◌}
use Rattle.std.specs.Prelude.{IsUtf8, IsCharBoundary}
use Rattle.std.specs.List.{starts_with}
use Rattle.std.proofs.lemmas.Str.{IsCharBoundary-past_char}
use Rattle.std.proofs.lemmas.List.{take_more, reverse-append}
use Rattle.std.proofs.lemmas.Bool.Decides.{nat_tests}
use Rattle.std.specs.Option.{option_or}
use Rattle.std.specs.IoError.{error_kind}
use Rattle.std.specs.declared.io.Error.{Error as IoError}
use Rattle.std.specs.declared.io.ErrorKind.{ErrorKind}
use Rattle.std.specs.declared.io.ErrorKind.TheVariants.{OutOfMemory}
use Rattle.std.proofs.lemmas.Str.{IsUtf8-nil}
use Rattle.syntect_grammar.specs.Finding.{mark, found_by_file_name, found_by_first_line, found_for_file, IsFoundFor, NotFoundFor}
use Rattle.syntect_grammar.specs.Passing.{from_kind, from_io}
use Rattle.syntect_grammar.specs.declared.error.Error.{Error}
use Rattle.syntect_grammar.specs.declared.syntax_set.SyntaxSet.{SyntaxSet}
use Rattle.syntect_grammar.specs.syntect_base.Trees.{Answer, begins, RefusesLine}
use Rattle.syntect_grammar.specs.syntect_grammar_contexts.declared.syntax_reference.SyntaxReference.{SyntaxReference}

-- one more is looked at, from the end on
pub one_before : {X : Type 0} (fits : X → Bool) (xs : List X) (k : ℕ) (x : X) → k < length xs → x ≡ get_or xs k x
    → find fits (reverse (take (k + 1) xs)) ≡ (if fits x then Some x else find fits (reverse (take k xs)))
one_before fits xs k x l e =
    ap (λ ys. find fits (reverse ys)) (take_more xs k x l ∙ ap (λ y. take k xs ++ y ∷ []) (sym e))
    ∙ ap (find fits) (reverse-append (take k xs) (x ∷ []))

-- a byte order mark is one character
pub mark_boundary : (s : List ℕ) → IsUtf8 s → starts_with ◌==◌ s mark ≡ true → IsCharBoundary s 3
unfolding encode
mark_boundary [] utf8 h = cc
mark_boundary (a ∷ []) utf8 h = absurd (grind (arith, nat_tests))
mark_boundary (a ∷ b ∷ []) utf8 h = absurd (grind (arith, nat_tests))
mark_boundary (a ∷ b ∷ c ∷ rest) utf8 h =
    let x : a ≡ 0xEF = grind (arith, nat_tests) in
    let y : b ≡ 0xBB = grind (arith, nat_tests) in
    let z : c ≡ 0xBF = grind (arith, nat_tests) in
    IsCharBoundary-past_char (a ∷ b ∷ c ∷ rest) rest 0 0xFEFF (omega arith) utf8 (rw (x, y, z))

-- ---- syntaxes of files ----

module _ (Told : Answer → Type 0) (set : SyntaxSet) (path : List ℕ) where
  -- the path tells the syntax
  pub told_by_name : (syntax : SyntaxReference) → Some syntax ≡ found_by_file_name set path → IsFoundFor Told set path (Some syntax)
  told_by_name syntax e =
      ([], IsUtf8-nil, ap (λ (o : Option SyntaxReference). option_or o (found_by_first_line set [])) e, λ n. let q : Some syntax ≡ None = e ∙ n in cc)

  module _ (text : List ℕ) (same : text ≡ path) (none : found_by_file_name set path ≡ None) where
    -- the first line tells it, or nothing does
    pub told_by_line : (line : List ℕ) (found : Option SyntaxReference) → IsUtf8 line → Told (begins text line) → found ≡ found_by_first_line set line → IsFoundFor Told set path found
    told_by_line line found u h e =
        (line, u, e ∙ ap (λ (o : Option SyntaxReference). option_or o (found_by_first_line set line)) (sym none), λ n. subst (λ (p : List ℕ). Told (begins p line)) same h)

    kind_so : (kind : ErrorKind) (e : IoError) → error_kind e ≡ kind → RefusesLine Told path e → NotFoundFor Told set path (from_kind kind e)
    kind_so OutOfMemory e k h = none
    kind_so kind e k h = (none, (λ q. let r : kind ≡ OutOfMemory = sym k ∙ q in cc), h)

    -- no line was read
    pub no_line : (e : IoError) (r : Error) → r ≡ from_io e → RefusesLine Told text e → NotFoundFor Told set path r
    no_line e r q h = subst (NotFoundFor Told set path) (sym q) (kind_so (error_kind e) e refl (subst (λ (p : List ℕ). RefusesLine Told p e) same h))
