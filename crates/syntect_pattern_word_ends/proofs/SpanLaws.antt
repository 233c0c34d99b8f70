-- What can come after runs, node by node.
use Rattle.std.proofs.Common.{◌≡◌, ◌++◌, ◌∷◌, [], ◌∙◌, ℕ, Bool, List, length, get_or, sym, ap, arith, below_more, length-append}
use Rattle.std.proofs.Math.ListN.{get_or-append}
use Rattle.std.proofs.Math.Seq.{get_or-append_seam}
use Rattle.syntect_pattern_word_ends.specs.syntect_pattern.Trees.{Tree, nothing}
use Rattle.syntect_pattern_table.specs.Starts.{begins_at}
use Rattle.syntect_pattern_table.specs.declared.starts.Firsts.{Firsts}
use Rattle.syntect_pattern_table.specs.declared.starts.Places.{Places}
use Rattle.syntect_pattern_word_ends.specs.Ends.{Span, spans}

-- one more node's
pub Span-push : (blank : Bool) (x : ℕ) (rs ss : List Places) (ts : List Tree) (f : Firsts) (k : ℕ) → Span blank x rs ss ts → length rs ≡ k → length ss ≡ k → begins_at x f ≡ spans blank x (get_or ts k nothing)
    → Span blank x (rs ++ f.read ∷ []) (ss ++ f.stay ∷ []) ts
Span-push blank x rs ss ts f k h e e' is j d l =
    below_more (λ n. (c : Places) → begins_at x (record { read = get_or (rs ++ f.read ∷ []) n c; stay = get_or (ss ++ f.stay ∷ []) n c }) ≡ spans blank x (get_or ts n nothing)) k
    (λ n p c. ap (λ (r : Places). begins_at x (record { read = r; stay = get_or (ss ++ f.stay ∷ []) n c })) (get_or-append rs (f.read ∷ []) c n (omega (arith, p, e)))
    ∙ ap (λ (s : Places). begins_at x (record { read = get_or rs n c; stay = s })) (get_or-append ss (f.stay ∷ []) c n (omega (arith, p, e'))) ∙ h n c (omega (arith, p, e)))
    (λ c. ap (λ n. begins_at x (record { read = get_or (rs ++ f.read ∷ []) n c; stay = get_or (ss ++ f.stay ∷ []) k c })) (sym e)
    ∙ ap (λ n. begins_at x (record { read = get_or (rs ++ f.read ∷ []) (length rs) c; stay = get_or (ss ++ f.stay ∷ []) n c })) (sym e')
    ∙ ap (λ (r : Places). begins_at x (record { read = r; stay = get_or (ss ++ f.stay ∷ []) (length ss) c })) (get_or-append_seam rs f.read [] c)
    ∙ ap (λ (s : Places). begins_at x (record { read = f.read; stay = s })) (get_or-append_seam ss f.stay [] c) ∙ is) j (omega (arith, length-append rs (f.read ∷ []), e)) d
