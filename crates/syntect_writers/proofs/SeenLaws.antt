-- What a reader of written marks sees.
use Rattle.std.proofs.Common.{◌≡◌, ℕ, zero, suc, ◌-◌, ◌<◌, ◌==◌, Bool, true, false, not, ◌&&◌, List, [], ◌∷◌, ◌++◌, length, take, map, codes, refl, sym, ap, subst, ◌∙◌, append-nil, append_assoc, arith, None, Some, length-append}
use Rattle.std.specs.List.{flat_map, list_all}
use Rattle.std.proofs.lemmas.Grind.{flat_map-append}
use Rattle.syntect_writers.specs.Classes.{class_text, classes_text, opening_tag, closing_tag}
use Rattle.syntect_writers.specs.Marks.{Mark, written}
use Rattle.syntect_writers.specs.Marks.Mark.{Begin, End, Words}
use Rattle.syntect_writers.specs.Page.{Reader, read, read_byte, under, shown, tag_of, open_behind, bytes_under, IsNested}
use Rattle.syntect_writers.specs.Entities.{entity, escaped}
use Rattle.syntect_writers.specs.Names.{is_harmless}
use Rattle.syntect_writers.proofs.OutcomeLaws.{harmless}
use Rattle.syntect_writers.specs.syntect_scope.Repository.{atom_text}

-- ---- bytes ----

abbrev at : List (List ℕ) → List (ℕ × List (List ℕ)) → Reader
at open_tags seen = record { open_tags = open_tags; tag = None; seen = seen; stray = false }

abbrev within : List (List ℕ) → List (ℕ × List (List ℕ)) → List ℕ → Reader
within open_tags seen tag = record { open_tags = open_tags; tag = Some tag; seen = seen; stray = false }

pub read_more : (r : Reader) (xs ys : List ℕ) → read r (xs ++ ys) ≡ read (read r xs) ys
read_more r [] ys = refl
read_more r (b ∷ xs) ys = read_more (read_byte r r.tag b) xs ys

both : (a b : Bool) → (a && b) ≡ true → (a ≡ true) × (b ≡ true)
both true b e = (refl, e)
both false b e = let f : false ≡ true = e in cc

not_true : (a : Bool) → not a ≡ true → a ≡ false
not_true true e = let f : false ≡ true = e in cc
not_true false e = refl

read_text : (open_tags : List (List ℕ)) (seen : List (ℕ × List (List ℕ))) (bs : List ℕ) → list_all is_harmless bs ≡ true → read (at open_tags seen) bs ≡ at open_tags (seen ++ map (λ b. (b, open_tags)) bs)
read_text open_tags seen [] h = ap (at open_tags) (sym (append-nil seen))
read_text open_tags seen (b ∷ bs) h =
    let parts : (is_harmless b ≡ true) × (list_all is_harmless bs ≡ true) = both (is_harmless b) (list_all is_harmless bs) h in
    let other : (b == 60) ≡ false = not_true (b == 60) (both (not (b == 60)) _ parts.0).0 in
    rw other
    (read_text open_tags (seen ++ (b, open_tags) ∷ []) bs parts.1 ∙ ap (at open_tags) (append_assoc seen ((b, open_tags) ∷ []) (map (λ c. (c, open_tags)) bs)))

-- a byte that doesn't end a tag
abbrev is_inner : ℕ → Bool
is_inner b = not (b == 62)

read_tag : (open_tags : List (List ℕ)) (seen : List (ℕ × List (List ℕ))) (tag bs : List ℕ) → list_all is_inner bs ≡ true → read (within open_tags seen tag) bs ≡ within open_tags seen (tag ++ bs)
read_tag open_tags seen tag [] h = ap (within open_tags seen) (sym (append-nil tag))
read_tag open_tags seen tag (b ∷ bs) h =
    let parts : (is_inner b ≡ true) × (list_all is_inner bs ≡ true) = both (is_inner b) (list_all is_inner bs) h in
    let other : (b == 62) ≡ false = not_true (b == 62) parts.0 in
    rw other
    (read_tag open_tags seen (tag ++ b ∷ []) bs parts.1 ∙ ap (within open_tags seen) (append_assoc tag (b ∷ []) bs))

-- ---- tags ----

all_inner : (bs : List ℕ) → list_all is_harmless bs ≡ true → list_all is_inner bs ≡ true
all_inner [] h = refl
all_inner (b ∷ bs) h =
    let parts : (is_harmless b ≡ true) × (list_all is_harmless bs ≡ true) = both (is_harmless b) (list_all is_harmless bs) h in
    let inner : is_inner b ≡ true = (both (not (b == 62)) _ (both (not (b == 60)) _ parts.0).1).0 in
    rw (inner, all_inner bs parts.1) refl

inner_both : (xs ys : List ℕ) → list_all is_inner xs ≡ true → list_all is_inner ys ≡ true → list_all is_inner (xs ++ ys) ≡ true
inner_both [] ys h k = k
inner_both (x ∷ xs) ys h k =
    let parts : (is_inner x ≡ true) × (list_all is_inner xs ≡ true) = both (is_inner x) (list_all is_inner xs) h in
    rw (parts.0, inner_both xs ys parts.1 k) refl

module _ (prefix : List ℕ) (repo : List (List ℕ)) where
  inner_class : (atom : ℕ) → list_all is_inner (class_text prefix repo atom) ≡ true
  inner_class atom = all_inner (class_text prefix repo atom) (harmless (prefix ++ atom_text repo atom))

  inner_classes : (scope : List ℕ) → list_all is_inner (classes_text prefix repo scope) ≡ true
  inner_classes [] = refl
  inner_classes (a ∷ []) = inner_class a
  inner_classes (a ∷ (b ∷ scope)) = inner_both (class_text prefix repo a) (32 ∷ classes_text prefix repo (b ∷ scope)) (inner_class a) (inner_classes (b ∷ scope))

  inner_tag : (scope : List ℕ) → list_all is_inner (tag_of prefix repo scope) ≡ true
  inner_tag scope =
      inner_both (codes "span class=\"") (classes_text prefix repo scope ++ codes "\"") refl (inner_both (classes_text prefix repo scope) (codes "\"") (inner_classes scope) refl)

  tag_split : (scope : List ℕ) → opening_tag prefix repo scope ≡ 60 ∷ (tag_of prefix repo scope ++ 62 ∷ [])
  tag_split scope =
      let x : List ℕ = codes "span class=\"" in
      let y : List ℕ = classes_text prefix repo scope in
      ap (λ (l : List ℕ). 60 ∷ (x ++ l)) (sym (append_assoc y (34 ∷ []) (62 ∷ []))) ∙ ap (λ (l : List ℕ). 60 ∷ l) (sym (append_assoc x (y ++ 34 ∷ []) (62 ∷ [])))

  read_opening : (open_tags : List (List ℕ)) (seen : List (ℕ × List (List ℕ))) (scope : List ℕ) → read (at open_tags seen) (opening_tag prefix repo scope) ≡ at (open_tags ++ tag_of prefix repo scope ∷ []) seen
  read_opening open_tags seen scope =
      ap (read (at open_tags seen)) (tag_split scope)
      ∙ read_more (within open_tags seen []) (tag_of prefix repo scope) (62 ∷ [])
      ∙ ap (λ (r : Reader). read r (62 ∷ [])) (read_tag open_tags seen [] (tag_of prefix repo scope) (inner_tag scope))

  read_closing : (t : List ℕ) (ts : List (List ℕ)) (seen : List (ℕ × List (List ℕ))) → read (at (t ∷ ts) seen) closing_tag ≡ at (take (length (t ∷ ts) - 1) (t ∷ ts)) seen
  read_closing t ts seen = refl

  -- ---- marks ----

  abbrev tags : List (List ℕ) → List (List ℕ)
  tags scopes = map (tag_of prefix repo) scopes

  tags_more : (scopes : List (List ℕ)) (s : List ℕ) → tags scopes ++ tag_of prefix repo s ∷ [] ≡ tags (scopes ++ s ∷ [])
  tags_more [] s = refl
  tags_more (t ∷ scopes) s = ap (λ (l : List (List ℕ)). tag_of prefix repo t ∷ l) (tags_more scopes s)

  tags_front : (n : ℕ) (scopes : List (List ℕ)) → take n (tags scopes) ≡ tags (take n scopes)
  tags_front zero scopes = refl
  tags_front (suc n) [] = refl
  tags_front (suc n) (t ∷ scopes) = ap (λ (l : List (List ℕ)). tag_of prefix repo t ∷ l) (tags_front n scopes)

  tags_count : (scopes : List (List ℕ)) → length (tags scopes) ≡ length scopes
  tags_count [] = refl
  tags_count (t ∷ scopes) = ap suc (tags_count scopes)

  -- a span begins
  read_begin : (scopes : List (List ℕ)) (seen : List (ℕ × List (List ℕ))) (s : List ℕ) → read (under prefix repo scopes seen) (opening_tag prefix repo s) ≡ under prefix repo (scopes ++ s ∷ []) seen
  read_begin scopes seen s = read_opening (tags scopes) seen s ∙ ap (λ (l : List (List ℕ)). at l seen) (tags_more scopes s)

  -- the last span ends
  pub read_end : (scopes : List (List ℕ)) (seen : List (ℕ × List (List ℕ))) → 0 < length scopes → read (under prefix repo scopes seen) closing_tag ≡ under prefix repo (take (length scopes - 1) scopes) seen
  read_end [] seen h = absurd (omega arith)
  read_end (t ∷ ts) seen h =
      read_closing (tag_of prefix repo t) (tags ts) seen
      ∙ ap (λ (n : ℕ). at (take (n - 1) (tags (t ∷ ts))) seen) (tags_count (t ∷ ts))
      ∙ ap (λ (l : List (List ℕ)). at l seen) (tags_front (length (t ∷ ts) - 1) (t ∷ ts))

  map_both : (open_tags : List (List ℕ)) (xs ys : List ℕ) → map {B = ℕ × List (List ℕ)} (λ b. (b, open_tags)) (xs ++ ys) ≡ map {B = ℕ × List (List ℕ)} (λ b. (b, open_tags)) xs ++ map {B = ℕ × List (List ℕ)} (λ b. (b, open_tags)) ys
  map_both open_tags [] ys = refl
  map_both open_tags (x ∷ xs) ys = ap (λ (l : List (ℕ × List (List ℕ))). (x, open_tags) ∷ l) (map_both open_tags xs ys)

  -- the bytes of a text as they are seen
  text_shown : (scopes : List (List ℕ)) (text : List ℕ) → map {B = ℕ × List (List ℕ)} (λ e. (e, tags scopes)) (escaped text) ≡ flat_map (shown prefix repo) (map (λ b. (b, scopes)) text)
  text_shown scopes [] = refl
  text_shown scopes (b ∷ text) =
      map_both (tags scopes) (entity b) (escaped text) ∙ ap (λ (l : List (ℕ × List (List ℕ))). map {B = ℕ × List (List ℕ)} (λ e. (e, tags scopes)) (entity b) ++ l) (text_shown scopes text)

  -- a text stands there
  read_words : (scopes : List (List ℕ)) (seen : List (ℕ × List (List ℕ))) (text : List ℕ)
      → read (under prefix repo scopes seen) (escaped text) ≡ under prefix repo scopes (seen ++ flat_map (shown prefix repo) (map (λ b. (b, scopes)) text))
  read_words scopes seen text =
      read_text (tags scopes) seen (escaped text) (harmless text) ∙ ap (λ (l : List (ℕ × List (List ℕ))). at (tags scopes) (seen ++ l)) (text_shown scopes text)

  popped : (scopes : List (List ℕ)) (s : List ℕ) → take (length (scopes ++ s ∷ []) - 1) (scopes ++ s ∷ []) ≡ scopes
  popped scopes s =
      let n : length (scopes ++ s ∷ []) - 1 ≡ length scopes = omega (arith, length-append scopes (s ∷ [])) in
      ap (λ (m : ℕ). take m (scopes ++ s ∷ [])) n ∙ take_front scopes (s ∷ [])
    where
      take_front : (xs ys : List (List ℕ)) → take (length xs) (xs ++ ys) ≡ xs
      take_front [] ys = refl
      take_front (x ∷ xs) ys = ap (λ (l : List (List ℕ)). x ∷ l) (take_front xs ys)

  abbrev Sees : List (List ℕ) → List (ℕ × List (List ℕ)) → List Mark → List ℕ → Type 0
  Sees scopes seen ms bytes = read (under prefix repo scopes seen) bytes ≡ under prefix repo (open_behind scopes ms) (seen ++ flat_map (shown prefix repo) (bytes_under scopes ms))

  begun : (scopes : List (List ℕ)) (seen : List (ℕ × List (List ℕ))) (s : List ℕ) (ms : List Mark) → Sees (scopes ++ s ∷ []) seen ms (written prefix repo ms)
      → Sees scopes seen (Begin s ∷ ms) (opening_tag prefix repo s ++ written prefix repo ms)
  begun scopes seen s ms rest =
      read_more (under prefix repo scopes seen) (opening_tag prefix repo s) (written prefix repo ms)
      ∙ ap (λ (r : Reader). read r (written prefix repo ms)) (read_begin scopes seen s)
      ∙ rest

  pub all_seen : (scopes : List (List ℕ)) (seen : List (ℕ × List (List ℕ))) (ms : List Mark) → IsNested scopes ms → Sees scopes seen ms (written prefix repo ms)
  all_seen scopes seen [] h = ap (under prefix repo scopes) (sym (append-nil seen))
  all_seen scopes seen (End ∷ ms) h =
      read_more (under prefix repo scopes seen) closing_tag (written prefix repo ms)
      ∙ ap (λ (r : Reader). read r (written prefix repo ms)) (read_end scopes seen h.0)
      ∙ all_seen (take (length scopes - 1) scopes) seen ms h.1
  all_seen scopes seen (Words text ∷ ms) h =
      let here : List (ℕ × List (List ℕ)) = flat_map (shown prefix repo) (map (λ b. (b, scopes)) text) in
      read_more (under prefix repo scopes seen) (escaped text) (written prefix repo ms)
      ∙ ap (λ (r : Reader). read r (written prefix repo ms)) (read_words scopes seen text)
      ∙ all_seen scopes (seen ++ here) ms h
      ∙ ap (under prefix repo (open_behind scopes ms))
      (append_assoc seen here (flat_map (shown prefix repo) (bytes_under scopes ms))
      ∙ ap (λ (l : List (ℕ × List (List ℕ))). seen ++ l) (sym (flat_map-append (shown prefix repo) (map (λ b. (b, scopes)) text) (bytes_under scopes ms))))
  all_seen scopes seen (Begin s ∷ []) h = read_begin scopes seen s ∙ ap (under prefix repo (scopes ++ s ∷ [])) (sym (append-nil seen))
  all_seen scopes seen (Begin s ∷ (End ∷ ms)) h =
      let same : take (length (scopes ++ s ∷ []) - 1) (scopes ++ s ∷ []) ≡ scopes = popped scopes s in
      all_seen scopes seen ms (subst (λ (l : List (List ℕ)). IsNested l ms) same h.1)
      ∙ ap (λ (l : List (List ℕ)). under prefix repo (open_behind l ms) (seen ++ flat_map (shown prefix repo) (bytes_under l ms))) (sym same)
  all_seen scopes seen (Begin s ∷ (Begin t ∷ ms)) h = begun scopes seen s (Begin t ∷ ms) (all_seen (scopes ++ s ∷ []) seen (Begin t ∷ ms) h)
  all_seen scopes seen (Begin s ∷ (Words text ∷ ms)) h = begun scopes seen s (Words text ∷ ms) (all_seen (scopes ++ s ∷ []) seen (Words text ∷ ms) h)
