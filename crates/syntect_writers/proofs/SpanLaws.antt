-- A line while it is written.
use Rattle.std.proofs.Common.{◌≡◌, ℕ, Bool, true, false, List, [], ◌∷◌, ◌++◌, Some, refl, ap, ◌∙◌, append_assoc, append-nil, inl, inr, codes, if◌then◌else◌}
use Rattle.std.specs.List.{flat_map}
use Rattle.std.proofs.lemmas.Bool.{cases_Bool}
use Rattle.std.proofs.lemmas.Grind.{flat_map-append}
use Rattle.std.specs.Prelude.{Option, None}
use Rattle.syntect_theme.specs.declared.style.Style.{Style}
use Rattle.syntect_writers.specs.Entities.{entity, escaped}
use Rattle.syntect_writers.specs.Spans.{open_tag, span_text, spans_from, joins_span}
use Rattle.syntect_writers.specs.Opened.{behind_open, line_behind, close_of, continued}
use Rattle.syntect_writers.specs.declared.html.IncludeBackground.{IncludeBackground}

-- three texts that are put last one after another
pub three_joined : (o a b c x y z : List ℕ) → x ≡ o ++ a → y ≡ x ++ b → z ≡ y ++ c → z ≡ o ++ (a ++ (b ++ c))
three_joined o a b c x y z e f g =
    g ∙ ap (λ (t : List ℕ). t ++ c) (f ∙ ap (λ (t : List ℕ). t ++ b) e ∙ append_assoc o a b) ∙ append_assoc o (a ++ b) c
    ∙ ap (λ (t : List ℕ). o ++ t) (append_assoc a b c)

-- nine texts
pub nine_joined : (o a b c d e f g h i r s t u v w x y z : List ℕ) → r ≡ o ++ a → s ≡ r ++ b → t ≡ s ++ c → u ≡ t ++ d → v ≡ u ++ e → w ≡ v ++ f → x ≡ w ++ g → y ≡ x ++ h → z ≡ y ++ i
    → z ≡ o ++ (a ++ (b ++ (c ++ (d ++ (e ++ (f ++ (g ++ (h ++ i))))))))
nine_joined o a b c d e f g h i r s t u v w x y z er es et eu ev ew ex ey ez =
    three_joined o (a ++ (b ++ c)) (d ++ (e ++ f)) (g ++ (h ++ i)) t w z (three_joined o a b c r s t er es et) (three_joined t d e f u v w eu ev ew) (three_joined w g h i x y z ex ey ez)
    ∙ ap (λ (k : List ℕ). o ++ k) (simp append_assoc)

-- six texts
pub six_joined : (o a b c d e f r s t u v z : List ℕ) → r ≡ o ++ a → s ≡ r ++ b → t ≡ s ++ c → u ≡ t ++ d → v ≡ u ++ e → z ≡ v ++ f
    → z ≡ o ++ (a ++ (b ++ (c ++ (d ++ (e ++ f)))))
six_joined o a b c d e f r s t u v z er es et eu ev ez =
    three_joined t d e f u v z eu ev ez ∙ ap (λ (k : List ℕ). k ++ (d ++ (e ++ f))) (three_joined o a b c r s t er es et)
    ∙ simp append_assoc

-- a tag in parts
pub tag_joined : (ground flags digits : List ℕ)
    → codes "<span style=\"" ++ (ground ++ (flags ++ (codes "color:#" ++ (digits ++ codes ";\">"))))
    ≡ codes "<span style=\"" ++ ((ground ++ (flags ++ (codes "color:" ++ ((35 ∷ digits) ++ codes ";")))) ++ codes "\">")
tag_joined ground flags digits = simp append_assoc

-- spans whose first one has the style and this much of its text
pub spans_behind : (bg : IncludeBackground) (style : Style) (text : List ℕ) (ps : List (Style × List ℕ))
    → flat_map (span_text bg) (spans_from style text ps) ≡ open_tag bg style ++ (escaped text ++ behind_open bg style ps)
unfolding spans_from behind_open
spans_behind bg style text [] = append-nil (span_text bg (style, text))
spans_behind bg style text (p ∷ ps) =
    elim (cases_Bool (joins_span style p)) [
      | inl same ↦ rw (same)
          (spans_behind bg style (text ++ p.1) ps
          ∙ ap (λ (xs : List ℕ). open_tag bg style ++ (xs ++ behind_open bg style ps)) (flat_map-append entity text p.1)
          ∙ ap (λ (xs : List ℕ). open_tag bg style ++ xs) (append_assoc (escaped text) (escaped p.1) (behind_open bg style ps)))
      | inr other ↦ rw (other)
          (ap (λ (xs : List ℕ). span_text bg (style, text) ++ xs) (spans_behind bg p.0 p.1 ps)
          ∙ append_assoc (open_tag bg style) (escaped text ++ codes "</span>") _
          ∙ ap (λ (xs : List ℕ). open_tag bg style ++ xs) (append_assoc (escaped text) (codes "</span>") _))
    ]

into : (b : Bool) (style before : Style) → (if b then Some style else None) ≡ Some before → (b ≡ true) × (style ≡ before)
into true style before e = let h : Some style ≡ Some before = e in (refl, cc)
into false style before e = let h : None ≡ Some before = e in cc

apart : (b : Bool) (style : Style) → (if b then Some style else None) ≡ None → b ≡ false
apart true style e = let h : Some style ≡ None = e in cc
apart false style e = refl

-- a piece that goes into the open span
pub piece_into : (bg : IncludeBackground) (last : Option Style) (before : Style) (p : Style × List ℕ) (ps : List (Style × List ℕ)) → continued last p ≡ Some before
    → line_behind bg last (p ∷ ps) ≡ escaped p.1 ++ behind_open bg before ps
unfolding behind_open
piece_into bg None before p ps e = let h : None ≡ Some before = e in cc
piece_into bg (Some style) before p ps e =
    let h = into (joins_span style p) style before e in
    rw (h.0) (ap (λ (s : Style). escaped p.1 ++ behind_open bg s ps) h.1)

-- a piece that begins a span
pub piece_apart : (bg : IncludeBackground) (last : Option Style) (p : Style × List ℕ) (ps : List (Style × List ℕ)) → continued last p ≡ None
    → line_behind bg last (p ∷ ps) ≡ close_of last ++ (open_tag bg p.0 ++ (escaped p.1 ++ behind_open bg p.0 ps))
unfolding behind_open
piece_apart bg None p ps e = spans_behind bg p.0 p.1 ps
piece_apart bg (Some style) p ps e = rw (apart (joins_span style p) style e) refl

-- the end of a line
pub line_end : (bg : IncludeBackground) (last : Option Style) → line_behind bg last [] ≡ close_of last
unfolding behind_open
line_end bg None = refl
line_end bg (Some style) = refl
