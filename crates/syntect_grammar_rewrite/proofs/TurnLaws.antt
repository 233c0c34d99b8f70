-- What is left to write, and what is remembered, from turn to turn.
use Rattle.std.proofs.Common.{◌≡◌, ℕ, ◌<◌, ◌≤◌, ◌+◌, Bool, true, false, List, [], ◌∷◌, ◌++◌, length, take, drop, Option, Some, None, MatchOption, refl, sym, ap, ◌∙◌, inl, inr, subst, arith, append-nil, length-append}
use Rattle.std.proofs.lemmas.Bool.{true≢false}
use Rattle.std.proofs.lemmas.Bool.Decides.{eqb_tells}
use lib.Dec.{eqb}
use Rattle.std.specs.Map.{lookup}
use Rattle.std.specs.Str.{bytes_eq}
use Rattle.syntect_grammar_rewrite.specs.Cutting.{char_len}
use Rattle.syntect_grammar_rewrite.specs.Variables.{Variables, is_use, name_len, name, without, value_by, expanded}
use Rattle.syntect_grammar_rewrite.specs.declared.expand.Frame.{Frame}
use Rattle.syntect_grammar_rewrite.specs.Marking.{marked_value, marked}
use Rattle.syntect_grammar_rewrite.specs.Expanding.{inner, left, turns, Vanishes, AllVanish, AreTraced, BeginsWithUse, GoesInto, Enters, Closes}
use Rattle.syntect_grammar_rewrite.proofs.ExpandLaws.{without_mark, marked-use, marked-char, marked-none, left-write, left-open, left-close}
use Rattle.syntect_grammar_rewrite.proofs.VanishLaws.{marked-value, all-fewer}

-- ---- the frames

inner-last : (vs : Variables) (fs : List Frame) (g : Frame) → inner vs (fs ++ g ∷ []) ≡ without g.name (inner vs fs)
inner-last vs [] g = refl
inner-last vs (f ∷ fs) g = inner-last (without f.name vs) fs g

-- what is read of a text goes on to another of which as much is left to write
traced-on : (vs : Variables) (fs : List Frame) (t u : List ℕ) (n : ℕ) → marked [] (inner vs fs) t ≡ marked [] (inner vs fs) u → AreTraced vs fs t n → AreTraced vs fs u n
traced-on vs [] t u n h a = a
traced-on vs (f ∷ fs) t u n h a =
    (λ e. sym (left-write [] [] (without f.name vs) fs t u h) ∙ a.0 e, a.1, traced-on (without f.name vs) fs t u n h a.2)

traced-open : (vs : Variables) (fs : List Frame) (g : Frame) (t text : List ℕ) (n : ℕ) → g.start ≡ n → lookup (bytes_eq g.name) (inner vs fs) ≡ Some text → marked [] (inner vs fs) t ≡ marked [] (without g.name (inner vs fs)) text ++ marked [] (inner vs fs) g.rest.now → AreTraced vs fs t n → AreTraced vs (fs ++ g ∷ []) text n
traced-open vs [] g t text n s e h a =
    (λ _. without_mark (without g.name vs) text ∙ ap (value_by expanded vs g.name) (sym e), omega (arith, s), a)
traced-open vs (f ∷ fs) g t text n s e h a =
    (λ b. sym (left-open [] (without f.name vs) fs g t text h) ∙ a.0 b, a.1, traced-open (without f.name vs) fs g t text n s e h a.2)

traced-close : (vs : Variables) (fs : List Frame) (g : Frame) (t : List ℕ) (n : ℕ) → length t ≡ 0 → AreTraced vs (fs ++ g ∷ []) t n → AreTraced vs fs g.rest.now n
traced-close vs [] g t n none a = a.2
traced-close vs (f ∷ fs) g t n none a =
    (λ e. sym (left-close [] (without f.name vs) fs g t none) ∙ a.0 e, a.1, traced-close (without f.name vs) fs g t n none a.2)

-- a frame in which nothing was written
traced-last : (vs : Variables) (fs : List Frame) (g : Frame) (t : List ℕ) (n : ℕ) → length t ≡ 0 → AreTraced vs (fs ++ g ∷ []) t n → g.start ≡ n → Vanishes (inner vs fs) g.name
traced-last vs [] g t n none a e = sym (a.0 e) ∙ marked-none [] (without g.name vs) t none
traced-last vs (f ∷ fs) g t n none a e = traced-last (without f.name vs) fs g t n none a.2 e

-- more is written
pub traced-more : (vs : Variables) (fs : List Frame) (t u : List ℕ) (n m : ℕ) → n < m → AreTraced vs fs t n → AreTraced vs fs u m
traced-more vs [] t u n m lt a = a
traced-more vs (f ∷ fs) t u n m lt a =
    (λ e. absurd (omega (arith, e, a.1)), omega (arith, a.1), traced-more (without f.name vs) fs t u n m lt a.2)

-- ---- turns

pub marked_some : (vs : Variables) (name : List ℕ) (o : Option (List ℕ)) → 0 < length (marked_value (0 ∷ []) (marked (0 ∷ [])) vs name o)
marked_some vs name None = omega arith
marked_some vs name (Some text) = omega arith

pub written_falls : (vs : Variables) (fs gs : List Frame) (t u x : List ℕ) → left (0 ∷ []) vs fs t ≡ x ++ left (0 ∷ []) vs gs u → 0 < length x → length gs ≤ length fs + 1 → turns vs gs u < turns vs fs t
written_falls vs fs gs t u x e some deep =
    let more : length (left (0 ∷ []) vs fs t) ≡ length x + length (left (0 ∷ []) vs gs u) = ap length e ∙ length-append x (left (0 ∷ []) vs gs u) in
    omega arith

pub enter-none : (vs : Variables) (fs : List Frame) (known : List (List ℕ × Bool)) (n : ℕ) (name after : List ℕ) → AllVanish (inner vs fs) known → Vanishes (inner vs fs) name → Enters vs fs known n name after fs after
enter-none vs fs known n name after all e t h a =
    let us = inner vs fs in
    let same : marked [] us t ≡ marked [] us after =
    h [] us ∙ ap (λ (x : List ℕ). x ++ marked [] us after) (marked-value us name (lookup (bytes_eq name) us) ∙ e) in
    let x = marked_value (0 ∷ []) (marked (0 ∷ [])) us name (lookup (bytes_eq name) us) in (
      left-write [] [] vs fs t after same,
      written_falls vs fs fs t after x (left-write (0 ∷ []) x vs fs t after (h (0 ∷ []) us)) (marked_some us name (lookup (bytes_eq name) us)) (omega arith),
      traced-on vs fs t after n same a,
      all,
    )

enter-some : (vs : Variables) (fs : List Frame) (known : List (List ℕ × Bool)) (n : ℕ) (g : Frame) (text : List ℕ) → AllVanish (inner vs fs) known → g.start ≡ n → lookup (bytes_eq g.name) (inner vs fs) ≡ Some text → Enters vs fs known n g.name g.rest.now (fs ++ g ∷ []) text
enter-some vs fs known n g text all s e t h a =
    let us = inner vs fs in
    let opened : (mark : List ℕ) → marked mark us t ≡ (mark ++ marked mark (without g.name us) text) ++ marked mark us g.rest.now =
    λ mark. h mark us ∙ ap (λ o. marked_value mark (marked mark) us g.name o ++ marked mark us g.rest.now) e in (
      left-open [] vs fs g t text (opened []),
      written_falls vs fs (fs ++ g ∷ []) t text (0 ∷ []) (left-open (0 ∷ []) vs fs g t text (opened (0 ∷ []))) (omega arith) (omega (arith, length-append fs (g ∷ []))),
      traced-open vs fs g t text n s e (opened []) a,
      subst (λ ws. AllVanish ws known) (sym (inner-last vs fs g)) (all-fewer g.name us known all),
    )

pub enter-push : (vs : Variables) (fs gs : List Frame) (known : List (List ℕ × Bool)) (n : ℕ) (g : Frame) (text next : List ℕ) → gs ≡ fs ++ g ∷ [] → next ≡ text → AllVanish (inner vs fs) known → g.start ≡ n → lookup (bytes_eq g.name) (inner vs fs) ≡ Some text → Enters vs fs known n g.name g.rest.now gs next
enter-push vs fs gs known n g text next e l all s f =
    subst (λ hs. Enters vs fs known n g.name g.rest.now hs next) (sym e) (subst (Enters vs fs known n g.name g.rest.now (fs ++ g ∷ [])) (sym l) (enter-some vs fs known n g text all s f))

-- ---- a use that is gone into

pub into-none : (vs : Variables) (fs : List Frame) (name after : List ℕ) → lookup (bytes_eq name) (inner vs fs) ≡ None → GoesInto vs fs name after fs after
into-none vs fs name after e t h mark =
    let us = inner vs fs in
    left-write mark mark vs fs t after (h mark us ∙ ap (λ o. marked_value mark (marked mark) us name o ++ marked mark us after) e)

into-some : (vs : Variables) (fs : List Frame) (g : Frame) (text : List ℕ) → lookup (bytes_eq g.name) (inner vs fs) ≡ Some text → GoesInto vs fs g.name g.rest.now (fs ++ g ∷ []) text
into-some vs fs g text e t h mark =
    let us = inner vs fs in
    left-open mark vs fs g t text (h mark us ∙ ap (λ o. marked_value mark (marked mark) us g.name o ++ marked mark us g.rest.now) e)

pub into-push : (vs : Variables) (fs gs : List Frame) (g : Frame) (text next : List ℕ) → gs ≡ fs ++ g ∷ [] → next ≡ text → lookup (bytes_eq g.name) (inner vs fs) ≡ Some text → GoesInto vs fs g.name g.rest.now gs next
into-push vs fs gs g text next e l f =
    subst (λ hs. GoesInto vs fs g.name g.rest.now hs next) (sym e) (subst (GoesInto vs fs g.name g.rest.now (fs ++ g ∷ [])) (sym l) (into-some vs fs g text f))

pub deeper-push : (fs gs : List Frame) (g : Frame) → gs ≡ fs ++ g ∷ [] → length gs ≤ length fs + 1
deeper-push fs gs g e = omega (arith, ap length e, length-append fs (g ∷ []))

-- the use at the front of a text
pub is-use : (t name_now after : List ℕ) → 0 < length t → is_use t ≡ true → name_now ≡ name t → after ≡ drop (name_len t + 4) t → BeginsWithUse name_now after t
is-use t name_now after some e n a mark us =
    marked-use mark us t some e
    ∙ ap (λ (x : List ℕ). marked_value mark (marked mark) us x (lookup (bytes_eq x) us) ++ marked mark us (drop (name_len t + 4) t)) (sym n)
    ∙ ap (λ (x : List ℕ). marked_value mark (marked mark) us name_now (lookup (bytes_eq name_now) us) ++ marked mark us x) (sym a)

pub char-turn : (vs : Variables) (fs : List Frame) (t c after mark : List ℕ) (n : ℕ) → 0 < length t → is_use t ≡ false → n ≡ char_len t → c ≡ take n t → after ≡ drop n t → left mark vs fs t ≡ c ++ left mark vs fs after
char-turn vs fs t c after mark n some e l f b =
    left-write mark c vs fs t after (
    marked-char mark (inner vs fs) t some e
    ∙ ap (λ (k : ℕ). take k t ++ marked mark (inner vs fs) (drop k t)) (sym l)
    ∙ ap (λ (x : List ℕ). x ++ marked mark (inner vs fs) (drop n t)) (sym f)
    ∙ ap (λ (x : List ℕ). c ++ marked mark (inner vs fs) x) (sym b)
    )

pub char-falls : (vs : Variables) (fs : List Frame) (t c after : List ℕ) → left (0 ∷ []) vs fs t ≡ c ++ left (0 ∷ []) vs fs after → 0 < length c → turns vs fs after < turns vs fs t
char-falls vs fs t c after e some = written_falls vs fs fs t after c e some (omega arith)

pub char-traced : (vs : Variables) (fs : List Frame) (t c after out new : List ℕ) → new ≡ out ++ c → 0 < length c → AreTraced vs fs t (length out) → AreTraced vs fs after (length new)
char-traced vs fs t c after out new e some a = traced-more vs fs t after (length out) (length new) (omega (arith, ap length e, length-append out c)) a

pub is-same : (a b : ℕ) → eqb a b ≡ true → a ≡ b
is-same a b e = elim (eqb_tells a b) [
  | inl t ↦ t.1
  | inr f ↦ absurd (true≢false (sym e ∙ f.0))
]

pub close-pop : (fs gs : List Frame) (g : Frame) (known later : List (List ℕ × Bool)) (n : ℕ) → fs ≡ gs ++ g ∷ [] → ((us : Variables) → (g.start ≡ n → Vanishes us g.name) → AllVanish (without g.name us) known → AllVanish us later) → Closes fs known n gs later g.rest.now
close-pop fs gs g known later n e h vs t none a all =
    let traced : AreTraced vs (gs ++ g ∷ []) t n = subst (λ xs. AreTraced vs xs t n) e a in
    let vanish : AllVanish (without g.name (inner vs gs)) known = subst (λ ws. AllVanish ws known) (ap (inner vs) e ∙ inner-last vs gs g) all in (
      λ mark. ap (λ xs. left mark vs xs t) e ∙ left-close mark vs gs g t none,
      traced-close vs gs g t n none traced,
      h (inner vs gs) (traced-last vs gs g t n none traced) vanish,
    )

pub last-taken : (fs gs : List Frame) (o : Option Frame) (g : Frame) → o ≡ Some g → MatchOption o (length fs ≡ 0) (λ f. fs ≡ gs ++ f ∷ []) → fs ≡ gs ++ g ∷ []
last-taken fs gs o g e h = subst (λ (x : Option Frame). MatchOption x (length fs ≡ 0) (λ f. fs ≡ gs ++ f ∷ [])) e h

-- ---- the whole

-- where nothing is left
pub over : (vs : Variables) (fs : List Frame) (t : List ℕ) → length t ≡ 0 → length fs ≡ 0 → left [] vs fs t ≡ []
over vs [] t none last = marked-none [] vs t none
over vs (f ∷ fs) t none last = absurd (omega arith)

pub start : (vs : Variables) (fs : List Frame) (t out : List ℕ) → out ≡ [] → fs ≡ [] → out ++ left [] vs fs t ≡ expanded vs t
start vs fs t out e f = ap (λ (x : List ℕ). x ++ left [] vs fs t) e ∙ ap (λ xs. left [] vs xs t) f ∙ without_mark vs t

pub start-traced : (vs : Variables) (fs : List Frame) (t : List ℕ) (n : ℕ) → fs ≡ [] → AreTraced vs fs t n
start-traced vs fs t n f = subst (λ xs. AreTraced vs xs t n) (sym f) tt

pub finish : (vs : Variables) (fs : List Frame) (t out whole : List ℕ) → out ++ left [] vs fs t ≡ whole → length t ≡ 0 → length fs ≡ 0 → out ≡ whole
finish vs fs t out whole e none last = sym (append-nil out) ∙ ap (λ (x : List ℕ). out ++ x) (sym (over vs fs t none last)) ∙ e
