use Rattle.std.proofs.Common.{◌≡◌, ℕ, List, [], ◌∷◌, length, take, refl, ap, rules}
use Rattle.std.proofs.lemmas.Str.{IsCharBoundary-start}
use Rattle.syntect_check_rows.specs.syntect_regex.Nesting.{LiesIn}
use Rattle.syntect_check_rows.proofs.searching.substituted.Goals as goal

whole : (t : List ℕ) → take (length t) t ≡ t
whole [] = refl
whole (b ∷ t) = ap (λ (l : List ℕ). b ∷ l) (whole t)

pub search_into-requires-clause-begin_boundary : goal.search_into-requires-clause-begin_boundary
search_into-requires-clause-begin_boundary c = IsCharBoundary-start c.args.text.now c.utf8.text

pub regex_with_refs-requires : goal.regex_with_refs-requires
regex_with_refs-requires c = λ n at e.
    let text = c.args.text.now in
    let lies : LiesIn text 0 (length text) at = rw (whole text) at ((c.in-Ok.ensures.groups (search rules)).is_match.lie n at e) in
    (lies.starts, lies.ends)
