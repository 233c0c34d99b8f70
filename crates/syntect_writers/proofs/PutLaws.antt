-- Marks that are put after others.
use Rattle.std.proofs.Common.{◌≡◌, ℕ, zero, suc, ◌+◌, ◌-◌, ◌<◌, ◌≤◌, List, [], ◌∷◌, ◌++◌, length, take, drop, replicate, map, refl, sym, ap, ◌∙◌, append-nil, append_assoc, add-one, arith, get_or, Option, Some, None, min, length-append}
use Rattle.std.specs.Prelude.{string_bytes}
use Rattle.std.proofs.Math.Seq.{drop-cons}
use Rattle.std.proofs.lemmas.List.{length-take, drop_all, drop_at}
use Rattle.syntect_writers.specs.Classes.{closing_tag}
use Rattle.syntect_writers.specs.Marks.{Mark, written, behind, opening_of, mark_of, operation_marks}
use Rattle.syntect_writers.specs.Marks.Mark.{Begin, End, Words}
use Rattle.syntect_writers.specs.Writing.{Puts, all_written}
use Rattle.syntect_writers.specs.declared.marks.Spans.{Spans}
use Rattle.syntect_writers.specs.syntect_scope.Hook.{removals, additions, last_cleared}
use Rattle.syntect_writers.specs.syntect_scope.Stack.{applied, kept}
use Rattle.syntect_writers.specs.syntect_scope.declared.stack.BasicScopeStackOp.TheVariants.{Pop as Removed}
use Rattle.syntect_writers.specs.syntect_scope.declared.stack.ScopeStack.{ScopeStack}
use Rattle.syntect_writers.specs.syntect_scope.declared.stack.ScopeStackOp.{ScopeStackOp}
use Rattle.syntect_writers.specs.syntect_scope.declared.stack.ScopeStackOp.TheVariants.{Push, Pop, Clear, Restore, Noop}
use Rattle.syntect_writers.specs.Entities.{escaped}

module _ (prefix : List ℕ) (repo : List (List ℕ)) where
  -- ---- one mark ----

  written_begin : (w : Option (List ℕ)) (scope : List ℕ) (more : List Mark) → opening_of prefix repo w ++ written prefix repo (Begin scope ∷ more) ≡ written prefix repo (behind w (Begin scope ∷ more))
  written_begin None scope more = refl
  written_begin (Some t) scope more = refl

  written_words : (w : Option (List ℕ)) (text : List ℕ) (more : List Mark) → opening_of prefix repo w ++ (escaped text ++ written prefix repo more) ≡ written prefix repo (behind w (Words text ∷ more))
  written_words None text more = refl
  written_words (Some t) text more = refl

  written_last : (w : Option (List ℕ)) → opening_of prefix repo w ≡ written prefix repo (behind w [])
  written_last None = refl
  written_last (Some t) = refl

  -- a span begins after the tag that waited
  pub put_begin : (s t : Spans) (scope : List ℕ) → t.waiting ≡ Some scope → string_bytes t.text ≡ string_bytes s.text ++ opening_of prefix repo s.waiting → Puts prefix repo s (Begin scope ∷ []) t
  put_begin s t scope w e = record {
    put = λ more.
        ap (λ o. string_bytes t.text ++ written prefix repo (behind o more)) w
        ∙ ap (λ (l : List ℕ). l ++ written prefix repo (Begin scope ∷ more)) e
        ∙ append_assoc (string_bytes s.text) (opening_of prefix repo s.waiting) (written prefix repo (Begin scope ∷ more))
        ∙ ap (λ (l : List ℕ). string_bytes s.text ++ l) (written_begin s.waiting scope more);
  }

  -- a text comes after the tag that waited
  pub put_words : (s mid t : Spans) (text : List ℕ) → t.waiting ≡ None → string_bytes mid.text ≡ string_bytes s.text ++ opening_of prefix repo s.waiting → string_bytes t.text ≡ string_bytes mid.text ++ escaped text
      → Puts prefix repo s (Words text ∷ []) t
  put_words s mid t text w e f = record {
    put = λ more.
        ap (λ o. string_bytes t.text ++ written prefix repo (behind o more)) w
        ∙ ap (λ (l : List ℕ). l ++ written prefix repo more) (f ∙ ap (λ (l : List ℕ). l ++ escaped text) e)
        ∙ append_assoc (string_bytes s.text ++ opening_of prefix repo s.waiting) (escaped text) (written prefix repo more)
        ∙ append_assoc (string_bytes s.text) (opening_of prefix repo s.waiting) (escaped text ++ written prefix repo more)
        ∙ ap (λ (l : List ℕ). string_bytes s.text ++ l) (written_words s.waiting text more);
  }

  -- a span ends where none waited
  pub put_end : (s t : Spans) → s.waiting ≡ None → t.waiting ≡ None → string_bytes t.text ≡ string_bytes s.text ++ closing_tag → Puts prefix repo s (End ∷ []) t
  put_end s t w v e = record {
    put = λ more.
        ap (λ o. string_bytes t.text ++ written prefix repo (behind o more)) v
        ∙ ap (λ (l : List ℕ). l ++ written prefix repo more) e
        ∙ append_assoc (string_bytes s.text) closing_tag (written prefix repo more)
        ∙ ap (λ o. string_bytes s.text ++ written prefix repo (behind o (End ∷ more))) (sym w);
  }

  -- the span that waited ends
  pub put_nothing : (s t : Spans) (scope : List ℕ) → s.waiting ≡ Some scope → t.waiting ≡ None → string_bytes t.text ≡ string_bytes s.text → Puts prefix repo s (End ∷ []) t
  put_nothing s t scope w v e = record {
    put = λ more.
        ap (λ o. string_bytes t.text ++ written prefix repo (behind o more)) v
        ∙ ap (λ (l : List ℕ). l ++ written prefix repo more) e
        ∙ ap (λ o. string_bytes s.text ++ written prefix repo (behind o (End ∷ more))) (sym w);
  }

  -- ---- marks one after another ----

  pub put_none : (s : Spans) → Puts prefix repo s [] s
  put_none s = record { put = λ more. refl }

  pub put_both : (s t u : Spans) (ms ns : List Mark) → Puts prefix repo s ms t → Puts prefix repo t ns u → Puts prefix repo s (ms ++ ns) u
  put_both s t u ms ns h k = record {
    put = λ more. k.put more ∙ h.put (ns ++ more) ∙ ap (λ (l : List Mark). all_written prefix repo s l) (sym (append_assoc ms ns more));
  }

  pub begin_first : (scopes : List (List ℕ)) (i : ℕ) (d : List ℕ) (s t u : Spans) → i < length scopes → Puts prefix repo s (Begin (get_or scopes i d) ∷ []) t
      → Puts prefix repo t (map Begin (drop (i + 1) scopes)) u → Puts prefix repo s (map Begin (drop i scopes)) u
  begin_first scopes i d s t u l h k =
      let r : drop i scopes ≡ get_or scopes i d ∷ drop (i + 1) scopes = drop-cons scopes i d l ∙ ap (λ (m : ℕ). get_or scopes i d ∷ drop m scopes) (sym (add-one i)) in
      rw r (put_both s t u (Begin (get_or scopes i d) ∷ []) (map Begin (drop (i + 1) scopes)) h k)

  pub end_first : (count n : ℕ) (s t u : Spans) → n < count → Puts prefix repo s (End ∷ []) t → Puts prefix repo t (replicate (count - (n + 1)) End) u → Puts prefix repo s (replicate (count - n) End) u
  end_first count n s t u l h k =
      let m : count - n ≡ suc (count - (n + 1)) = omega (arith, l) in
      rw m (put_both s t u (End ∷ []) (replicate (count - (n + 1)) End) h k)

  -- all marks were put, and then the tag that waited
  pub put_whole : (s t : Spans) (ms : List Mark) (text : List ℕ) → string_bytes s.text ≡ [] → s.waiting ≡ None → Puts prefix repo s ms t → text ≡ string_bytes t.text ++ opening_of prefix repo t.waiting
      → text ≡ written prefix repo ms
  put_whole s t ms text e w h k =
      k ∙ ap (λ (l : List ℕ). string_bytes t.text ++ l) (written_last t.waiting) ∙ h.put []
      ∙ ap (λ (l : List ℕ). l ++ written prefix repo (behind s.waiting (ms ++ []))) e ∙ ap (λ o. written prefix repo (behind o (ms ++ []))) w
      ∙ ap (written prefix repo) (append-nil ms)

-- ---- the marks of operations ----

pub marks_added : (base scopes : List (List ℕ)) → map mark_of (additions base scopes) ≡ map Begin scopes
marks_added base [] = refl
marks_added base (s ∷ scopes) = ap (λ (l : List Mark). Begin s ∷ l) (marks_added (base ++ s ∷ []) scopes)

pub marks_removed : (n : ℕ) (scopes : List (List ℕ)) → map mark_of (removals n scopes) ≡ replicate n End
marks_removed zero scopes = refl
marks_removed (suc n) scopes = ap (λ (l : List Mark). End ∷ l) (marks_removed n (take (length scopes - 1) scopes))

pub marks_cleared : (n : ℕ) (scopes : List (List ℕ)) → map mark_of (replicate n (Removed, scopes)) ≡ replicate n End
marks_cleared zero scopes = refl
marks_cleared (suc n) scopes = ap (λ (l : List Mark). End ∷ l) (marks_cleared n scopes)

-- an operation that leaves fewer scopes ends spans
pub marks_fewer : (op : ScopeStackOp) (s : ScopeStack) → length (applied op s).scopes < length s.scopes → operation_marks op s ≡ replicate (length s.scopes - length (applied op s).scopes) End
marks_fewer (Push scope) s h = absurd (omega (arith, h, length-append s.scopes (scope ∷ [])))
marks_fewer (Pop count) s h =
    let n : min count (length s.scopes) ≡ length s.scopes - length (take (length s.scopes - count) s.scopes) = omega (arith, length-take {A = List ℕ} (length s.scopes - count) s.scopes) in
    marks_removed (min count (length s.scopes)) s.scopes ∙ ap (λ (k : ℕ). replicate k End) n
marks_fewer (Clear amount) s h =
    let n : length s.scopes - kept amount s ≡ length s.scopes - length (take (kept amount s) s.scopes) = omega (arith, length-take {A = List ℕ} (kept amount s) s.scopes) in
    marks_cleared (length s.scopes - kept amount s) (take (kept amount s) s.scopes) ∙ ap (λ (k : ℕ). replicate k End) n
marks_fewer Restore s h = absurd (omega (arith, h, length-append s.scopes (last_cleared s)))
marks_fewer Noop s h = absurd (omega (arith, h))

none_dropped : (xs ys : List (List ℕ)) → length ys ≤ length xs → [] ≡ map Begin (drop (length xs) ys)
none_dropped xs ys h = ap (map Begin) (sym (drop_all (length xs) ys h))

-- one that leaves no fewer begins those of the scopes on top
pub marks_more : (op : ScopeStackOp) (s : ScopeStack) → length s.scopes ≤ length (applied op s).scopes → operation_marks op s ≡ map Begin (drop (length s.scopes) (applied op s).scopes)
marks_more (Push scope) s h = ap (map Begin) (sym (drop_at s.scopes (scope ∷ []) (length s.scopes) refl))
marks_more (Pop count) s h =
    let short : length (take (length s.scopes - count) s.scopes) ≤ length s.scopes = omega (arith, length-take {A = List ℕ} (length s.scopes - count) s.scopes) in
    let n : min count (length s.scopes) ≡ 0 = omega (arith, h, length-take {A = List ℕ} (length s.scopes - count) s.scopes) in
    marks_removed (min count (length s.scopes)) s.scopes ∙ ap (λ (k : ℕ). replicate k End) n ∙ none_dropped s.scopes (take (length s.scopes - count) s.scopes) short
marks_more (Clear amount) s h =
    let short : length (take (kept amount s) s.scopes) ≤ length s.scopes = omega (arith, length-take {A = List ℕ} (kept amount s) s.scopes) in
    let n : length s.scopes - kept amount s ≡ 0 = omega (arith, h, length-take {A = List ℕ} (kept amount s) s.scopes) in
    marks_cleared (length s.scopes - kept amount s) (take (kept amount s) s.scopes) ∙ ap (λ (k : ℕ). replicate k End) n ∙ none_dropped s.scopes (take (kept amount s) s.scopes) short
marks_more Restore s h = marks_added s.scopes (last_cleared s) ∙ ap (map Begin) (sym (drop_at s.scopes (last_cleared s) (length s.scopes) refl))
marks_more Noop s h = none_dropped s.scopes s.scopes h
