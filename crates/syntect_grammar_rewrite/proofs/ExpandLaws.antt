-- What is left to write, from turn to turn.
use Rattle.std.proofs.Common.{◌≡◌, ℕ, zero, suc, ◌<◌, ◌+◌, Bool, true, false, List, [], ◌∷◌, ◌++◌, length, take, drop, Option, Some, None, refl, ap, ◌∙◌, arith, append_assoc}
use Rattle.std.specs.Prelude.{flat_map}
use Rattle.std.specs.Map.{lookup}
use Rattle.std.specs.Str.{bytes_eq}
use Rattle.syntect_grammar_rewrite.specs.Cutting.{char_len, parts}
use Rattle.syntect_grammar_rewrite.specs.Variables.{Variables, Part, itself, use_of, is_use, name_len, name, part_len, part, without, value_by, written_by, expanded_within, expanded}
use Rattle.syntect_grammar_rewrite.specs.declared.expand.Frame.{Frame}
use Rattle.syntect_grammar_rewrite.specs.Marking.{marked_value, marked_part, marked_within, marked}
use Rattle.syntect_grammar_rewrite.specs.Expanding.{inner, left}
use Rattle.syntect_grammar_rewrite.proofs.CuttingLaws.{flat-cons, parts-none, char_some}
use Rattle.syntect_grammar_rewrite.proofs.VariableLaws.{without-lt}

flat-same : (f g : Part → List ℕ) → ((p : Part) → f p ≡ g p) → (ps : List Part) → flat_map f ps ≡ flat_map g ps
flat-same f g h [] = refl
flat-same f g h (p ∷ ps) = ap (λ (x : List ℕ). x ++ flat_map f ps) (h p) ∙ ap (λ (x : List ℕ). g p ++ x) (flat-same f g h ps)

-- ---- without a mark

plain_value : (n : ℕ) (vs : Variables) (name : List ℕ) (o : Option (List ℕ)) → ((us : Variables) (t : List ℕ) → marked_within [] n us t ≡ expanded_within n us t) → marked_value [] (marked_within [] n) vs name o ≡ value_by (expanded_within n) vs name o
plain_value n vs name None h = refl
plain_value n vs name (Some text) h = h (without name vs) text

plain_part : (n : ℕ) (vs : Variables) (p : Part) → ((us : Variables) (t : List ℕ) → marked_within [] n us t ≡ expanded_within n us t) → marked_part [] (marked_within [] n) vs p ≡ written_by (expanded_within n) vs p
plain_part n vs (itself c) h = refl
plain_part n vs (use_of name) h = plain_value n vs name (lookup (bytes_eq name) vs) h

pub plain_within : (n : ℕ) (vs : Variables) (t : List ℕ) → marked_within [] n vs t ≡ expanded_within n vs t
plain_within zero vs t = refl
plain_within (suc n) vs t = flat-same (marked_part [] (marked_within [] n) vs) (written_by (expanded_within n) vs) (λ p. plain_part n vs p (plain_within n)) (parts part_len part t)

pub without_mark : (vs : Variables) (t : List ℕ) → marked [] vs t ≡ expanded vs t
unfolding marked expanded
without_mark vs t = plain_within (suc (length vs)) vs t

-- ---- the bound has no effect where it is above the number of variables

room_value : (mark : List ℕ) (n m : ℕ) (vs : Variables) (name : List ℕ) (o : Option (List ℕ)) → lookup (bytes_eq name) vs ≡ o → ((us : Variables) (t : List ℕ) → length us < length vs → marked_within mark n us t ≡ marked_within mark m us t) → marked_value mark (marked_within mark n) vs name o ≡ marked_value mark (marked_within mark m) vs name o
room_value mark n m vs name None e h = refl
room_value mark n m vs name (Some text) e h = ap (λ (x : List ℕ). mark ++ x) (h (without name vs) text (without-lt name text vs e))

room_part : (mark : List ℕ) (n m : ℕ) (vs : Variables) (p : Part) → ((us : Variables) (t : List ℕ) → length us < length vs → marked_within mark n us t ≡ marked_within mark m us t) → marked_part mark (marked_within mark n) vs p ≡ marked_part mark (marked_within mark m) vs p
room_part mark n m vs (itself c) h = refl
room_part mark n m vs (use_of name) h = room_value mark n m vs name (lookup (bytes_eq name) vs) refl h

pub room : (mark : List ℕ) (n m : ℕ) (vs : Variables) (t : List ℕ) → length vs < n → length vs < m → marked_within mark n vs t ≡ marked_within mark m vs t
room mark zero m vs t h k = absurd (omega arith)
room mark (suc n) zero vs t h k = absurd (omega arith)
room mark (suc n) (suc m) vs t h k =
    flat-same (marked_part mark (marked_within mark n) vs) (marked_part mark (marked_within mark m) vs) (λ p. room_part mark n m vs p (λ us u l. room mark n m us u (omega arith) (omega arith))) (parts part_len part t)

value_is : (mark : List ℕ) (vs : Variables) (name : List ℕ) (o : Option (List ℕ)) → lookup (bytes_eq name) vs ≡ o → marked_value mark (marked_within mark (length vs)) vs name o ≡ marked_value mark (marked mark) vs name o
unfolding marked
value_is mark vs name None e = refl
value_is mark vs name (Some text) e =
    let fewer : length (without name vs) < length vs = without-lt name text vs e in
    ap (λ (x : List ℕ). mark ++ x) (room mark (length vs) (suc (length (without name vs))) (without name vs) text fewer (omega arith))

-- ---- a part at a time

part_some : (t : List ℕ) → 0 < length t → (b : Bool) → is_use t ≡ b → 0 < part_len t
part_some t some true e = rw e (omega arith)
part_some t some false e = rw e (char_some t some)

pub marked-use : (mark : List ℕ) (vs : Variables) (t : List ℕ) → 0 < length t → is_use t ≡ true → marked mark vs t ≡ marked_value mark (marked mark) vs (name t) (lookup (bytes_eq (name t)) vs) ++ marked mark vs (drop (name_len t + 4) t)
unfolding marked
marked-use mark vs t some e =
    let len : part_len t ≡ name_len t + 4 = rw e refl in
    let is : part t ≡ use_of (name t) = rw e refl in
    let f = marked_part mark (marked_within mark (length vs)) vs in
    flat-cons f part_len part t some (part_some t some true e)
    ∙ ap (λ (p : Part). f p ++ flat_map f (parts part_len part (drop (part_len t) t))) is
    ∙ ap (λ (k : ℕ). f (use_of (name t)) ++ flat_map f (parts part_len part (drop k t))) len
    ∙ ap (λ (x : List ℕ). x ++ flat_map f (parts part_len part (drop (name_len t + 4) t))) (value_is mark vs (name t) (lookup (bytes_eq (name t)) vs) refl)

pub marked-char : (mark : List ℕ) (vs : Variables) (t : List ℕ) → 0 < length t → is_use t ≡ false → marked mark vs t ≡ take (char_len t) t ++ marked mark vs (drop (char_len t) t)
unfolding marked
marked-char mark vs t some e =
    let len : part_len t ≡ char_len t = rw e refl in
    let is : part t ≡ itself (take (char_len t) t) = rw e refl in
    let f = marked_part mark (marked_within mark (length vs)) vs in
    flat-cons f part_len part t some (part_some t some false e)
    ∙ ap (λ (p : Part). f p ++ flat_map f (parts part_len part (drop (part_len t) t))) is
    ∙ ap (λ (k : ℕ). take (char_len t) t ++ flat_map f (parts part_len part (drop k t))) len

pub marked-none : (mark : List ℕ) (vs : Variables) (t : List ℕ) → length t ≡ 0 → marked mark vs t ≡ []
unfolding marked
marked-none mark vs t none = ap (flat_map (marked_part mark (marked_within mark (length vs)) vs)) (parts-none part_len part t none)

-- ---- the frames

-- what is written where the text is read is written first
pub left-write : (mark x : List ℕ) (vs : Variables) (fs : List Frame) (t u : List ℕ) → marked mark (inner vs fs) t ≡ x ++ marked mark (inner vs fs) u → left mark vs fs t ≡ x ++ left mark vs fs u
left-write mark x vs [] t u h = h
left-write mark x vs (f ∷ fs) t u h =
    ap (λ (y : List ℕ). y ++ marked mark vs f.rest.now) (left-write mark x (without f.name vs) fs t u h) ∙ append_assoc x (left mark (without f.name vs) fs u) (marked mark vs f.rest.now)

pub left-open : (mark : List ℕ) (vs : Variables) (fs : List Frame) (g : Frame) (t text : List ℕ) → marked mark (inner vs fs) t ≡ (mark ++ marked mark (without g.name (inner vs fs)) text) ++ marked mark (inner vs fs) g.rest.now → left mark vs fs t ≡ mark ++ left mark vs (fs ++ g ∷ []) text
left-open mark vs [] g t text h = h ∙ append_assoc mark (marked mark (without g.name vs) text) (marked mark vs g.rest.now)
left-open mark vs (f ∷ fs) g t text h =
    ap (λ (y : List ℕ). y ++ marked mark vs f.rest.now) (left-open mark (without f.name vs) fs g t text h) ∙ append_assoc mark (left mark (without f.name vs) (fs ++ g ∷ []) text) (marked mark vs f.rest.now)

pub left-close : (mark : List ℕ) (vs : Variables) (fs : List Frame) (g : Frame) (t : List ℕ) → length t ≡ 0 → left mark vs (fs ++ g ∷ []) t ≡ left mark vs fs g.rest.now
left-close mark vs [] g t none = ap (λ (y : List ℕ). y ++ marked mark vs g.rest.now) (marked-none mark (without g.name vs) t none)
left-close mark vs (f ∷ fs) g t none = ap (λ (y : List ℕ). y ++ marked mark vs f.rest.now) (left-close mark (without f.name vs) fs g t none)
