-- What a collector of pieces has come to.
use Rattle.std.proofs.Common.{◌≡◌, ℕ, List, [], ◌∷◌, ◌++◌, length, refl, sym, ap, ◌∙◌, append_assoc, Some, None, Result, Ok, Err, Bor}
use Rattle.std.specs.declared.ops.Range.{Range}
use Rattle.std.proofs.lemmas.List.{append-nil}
use Rattle.syntect_style.specs.syntect_scope.Replay.{InOrder, AllApply, replay, before_text, bytes_to}
use Rattle.syntect_style.specs.syntect_scope.declared.stack.ScopeStack.{ScopeStack}
use Rattle.syntect_style.specs.syntect_scope.declared.stack.ScopeStackOp.{ScopeStackOp}
use Rattle.syntect_style.specs.syntect_scope.declared.stack.ScopeError.{ScopeError}
use Rattle.syntect_style.specs.syntect_scope.declared.stack.ScopeError.TheVariants.{NoClearedScopesToRestore, Memory}
use Rattle.syntect_style.specs.Pieces.{Stretch, oks, stretches, last_stack, path_of, KeepsTrueStyles, Joins, IsStyled}
use Rattle.syntect_style.specs.Items.{theme_of, stack_of, IsReady, Begins, left, final, Tells, Carries, Gives, Shows}
use Rattle.syntect_theme.specs.declared.style.Style.{Style}
use Rattle.syntect_theme.specs.declared.theme.Theme.{Theme}
use Rattle.syntect_style.specs.declared.state.HighlightState.{HighlightState}
use Rattle.syntect_style.specs.declared.pieces.RangedHighlightIterator.{RangedHighlightIterator}
use Rattle.syntect_style.proofs.Cuts.{ShowEach, show_more, oks-append, oks-same, all_apply, cuts, stretches_cuts, cuts_within, cuts_text, cuts_bytes, Within, text_of_cuts, bytes_of_cuts, joins_of, styled_of, last_replayed, refused_somewhere}
use Rattle.syntect_style.proofs.ItemLaws.{passes-final, shows-on}

-- from s on these pieces were given, and t comes next
pub record Collected (s t : RangedHighlightIterator) (pieces : List (Style × Bor (List ℕ))) : Type 0 where
  pub ready : IsReady t
  pub carries : Carries s t
  pub final : final t ≡ final s
  pub stretches : List Stretch
  pub left : left s ≡ oks stretches ++ left t
  pub shows : ShowEach (theme_of s) s.text.now (Tells s) stretches pieces

pub collected-more : {s m t : RangedHighlightIterator} {pieces : List (Style × Bor (List ℕ))} → Collected s m pieces → IsReady t → (p : Style × Bor (List ℕ) × Range ℕ) → Gives m (Some (Ok p)) t
    → Collected s t (pieces ++ (p.0, p.1) ∷ [])
collected-more {s} {m} {t} {pieces} h r p g =
    let x : Stretch = g.1.piece in
    let w : Shows (theme_of s) s.text.now (Tells s) x p = shows-on h.carries g.1.shows in
    record {
      ready = r;
      carries = record {
        text = g.0.text ∙ h.carries.text;
        highlighter = g.0.highlighter ∙ h.carries.highlighter;
        state = g.0.state ∙ h.carries.state;
        keeps = λ k. rw h.carries.highlighter at g.0.keeps (h.carries.keeps k);
      };
      final = passes-final g.1.passes ∙ h.final;
      stretches = h.stretches ++ x ∷ [];
      left = h.left ∙ ap (λ (l : List (Result Stretch ScopeError)). oks h.stretches ++ l) g.1.next
          ∙ sym (ap (λ (l : List (Result Stretch ScopeError)). l ++ left t) (oks-append h.stretches (x ∷ [])) ∙ append_assoc (oks h.stretches) (Ok x ∷ []) (left t));
      shows = show_more _ _ _ h.stretches pieces x (p.0, p.1) h.shows (record {
        style = w.style;
        text_of = w.text_of;
      });
    }

begun : {s : RangedHighlightIterator} {theme : Theme} {text : List ℕ} {changes : List (ℕ × ScopeStackOp)} {state : HighlightState} → Begins s theme text changes state
    → left s ≡ stretches (length text) 0 (path_of state) changes
begun b = rw (b.text_is, b.pos_is, b.state_is, b.changes_are) refl

pub record Whole (theme : Theme) (text : List ℕ) (changes : List (ℕ × ScopeStackOp)) (state : HighlightState) (pieces : List (Style × Bor (List ℕ))) (new : ScopeStack) : Type 0 where
  pub joins : Joins text pieces
  pub styled : KeepsTrueStyles theme state → IsStyled theme (bytes_to (replay changes (before_text (path_of state))) (length text)) pieces
  pub path : new ≡ (replay changes (before_text (path_of state))).stack
  pub applied : AllApply (path_of state) changes

pub collected-end : {s m t : RangedHighlightIterator} {pieces : List (Style × Bor (List ℕ))} {theme : Theme} {text : List ℕ} {changes : List (ℕ × ScopeStackOp)} {state : HighlightState}
    → Begins s theme text changes state → InOrder text 0 changes (length text) → Collected s m pieces → Gives m None t → Whole theme text changes state pieces (stack_of t)
collected-end {s} {m} {t} {pieces} {theme} {text} {changes} {state} b o h g =
    let e : stretches (length text) 0 (path_of state) changes ≡ oks h.stretches
    = sym (begun b) ∙ h.left ∙ ap (λ (l : List (Result Stretch ScopeError)). oks h.stretches ++ l) g.1.0 ∙ append-nil (oks h.stretches) in
    let a : AllApply (path_of state) changes = all_apply (length text) 0 (path_of state) changes h.stretches e in
    let c : h.stretches ≡ cuts (length text) 0 (path_of state) changes = oks-same _ _ (sym e ∙ stretches_cuts (length text) 0 (path_of state) changes a) in
    let w : Within (length text) h.stretches = rw c (cuts_within text (length text) 0 (path_of state) changes o) in
    let f : final s ≡ last_stack (path_of state) changes = rw (b.state_is, b.changes_are) refl in
    let each : ShowEach theme text (KeepsTrueStyles theme state) h.stretches pieces = rw (b.theme_is, b.text_is, b.state_is) at h.shows in
    let x : text_of_cuts text h.stretches ≡ text = ap (text_of_cuts text) c ∙ cuts_text text 0 (path_of state) changes o in
    let y : bytes_of_cuts h.stretches ≡ bytes_to (replay changes (before_text (path_of state))) (length text)
    = ap bytes_of_cuts c ∙ sym (cuts_bytes text (length text) 0 (path_of state) changes [] refl o) in
    record {
      joins = rw x at (joins_of theme text (KeepsTrueStyles theme state) h.stretches pieces w each);
      styled = λ keeps. rw y at (styled_of theme text (KeepsTrueStyles theme state) h.stretches pieces keeps w each);
      path = g.1.2 ∙ h.final ∙ f ∙ last_replayed (path_of state) changes [] a;
      applied = a;
    }

pub collected-refused : {s m t : RangedHighlightIterator} {pieces : List (Style × Bor (List ℕ))} {theme : Theme} {text : List ℕ} {changes : List (ℕ × ScopeStackOp)} {state : HighlightState}
    → Begins s theme text changes state → Collected s m pieces → (e : ScopeError) → Gives m (Some (Err e)) t → e ≡ NoClearedScopesToRestore → ¬ AllApply (path_of state) changes
collected-refused {text = text} {changes = changes} {state = state} b h NoClearedScopesToRestore g f =
    refused_somewhere (length text) 0 (path_of state) changes h.stretches (sym (begun b) ∙ h.left ∙ ap (λ (l : List (Result Stretch ScopeError)). oks h.stretches ++ l) g.1.0)
collected-refused b h Memory g f = cc
