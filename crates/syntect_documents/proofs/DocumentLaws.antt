-- Documents: what stands between their tags, whatever the title and the sheet are.
use Rattle.std.proofs.Common.{◌≡◌, ◌≢◌, ℕ, suc, ◌<◌, Bool, true, false, ◌==◌, not, ◌&&◌, List, [], ◌∷◌, ◌++◌, length, get_or, codes, refl, sym, ap, subst, ◌∙◌, inl, inr, arith, append_assoc}
use Rattle.std.specs.Prelude.{Option, Some, None, slice_get}
use Rattle.std.specs.List.{list_all}
use Rattle.std.specs.Str.{IsUtf8, IsCharBoundary}
use Rattle.std.specs.Str.Pattern.{FindsChar, SplitsAroundMatch}
use Rattle.std.proofs.lemmas.Bool.{cases_Bool}
use Rattle.std.proofs.lemmas.Bool.Decides.{nat_tests}
use Rattle.std.proofs.lemmas.Str.{IsUtf8-drop}
use Rattle.syntect_documents.specs.syntect_writers.Comment.{stays_inside}
use Rattle.syntect_documents.specs.syntect_writers.Entities.{escaped}
use Rattle.syntect_documents.specs.syntect_writers.Names.{is_harmless}
use Rattle.syntect_documents.specs.Document.{after, begins_with_slash, document_text, front, guard, guarded, up_to_end_tag, without_front}

-- ---- tests ----

pub first_decides : (text : List ℕ) (b : ℕ) → Some b ≡ slice_get text 0 → (b == 47) ≡ begins_with_slash text
first_decides [] b e = cc
first_decides (a ∷ rest) b e = let same : b ≡ a = cc in ap (λ c. c == 47) same

other_byte : (b : ℕ) → b ≢ 60 → (b == 60) ≡ false
other_byte b n = grind (arith, nat_tests)

that_byte : (b : ℕ) → (b == 60) ≡ true → b ≡ 60
that_byte b e = grind (arith, nat_tests)

harmless_byte : (b : ℕ) → is_harmless b ≡ true → (b == 60) ≡ false
harmless_byte b e = grind (arith, nat_tests)

harmless_turned : (b : ℕ) → is_harmless b ≡ true → (60 == b) ≡ false
harmless_turned b e = grind (arith, nat_tests)

inside_byte : (b : ℕ) → stays_inside b ≡ true → (b == 60) ≡ false
inside_byte b e = grind (arith, nat_tests)

both_true : (a b : Bool) → (a && b) ≡ true → (a ≡ true) × (b ≡ true)
both_true true true e = (refl, refl)
both_true true false e = absurd (let q : false ≡ true = e in cc)
both_true false b e = absurd (let q : false ≡ true = e in cc)

-- ---- sheets with a backslash in each `</` ----

-- a byte that is no `<`
plain_byte : (b : ℕ) (bs : List ℕ) → (b == 60) ≡ false → guarded (b ∷ bs) ≡ b ∷ guarded bs
plain_byte b bs e = rw (e) refl

-- a `<`
tag_byte : (bs : List ℕ) → guarded (60 ∷ bs) ≡ 60 ∷ (guard bs ++ guarded bs)
tag_byte bs = refl

-- a sheet at its first `<`
pub guarded_parts : (before rest : List ℕ) → ((i : ℕ) → i < length before → get_or before i 0 ≢ 60) → guarded (before ++ (60 ∷ rest)) ≡ before ++ (60 ∷ (guard rest ++ guarded rest))
guarded_parts [] rest h = tag_byte rest
guarded_parts (b ∷ before) rest h =
    let none : b ≢ 60 = h 0 (omega arith) in
    plain_byte b (before ++ (60 ∷ rest)) (other_byte b none) ∙ ap (λ (xs : List ℕ). b ∷ xs) (guarded_parts before rest (λ i l. h (suc i) (omega arith)))

-- a sheet without one
pub guarded_whole : (sheet : List ℕ) → ((i : ℕ) → i < length sheet → get_or sheet i 0 ≢ 60) → guarded sheet ≡ sheet
guarded_whole [] h = refl
guarded_whole (b ∷ sheet) h =
    let none : b ≢ 60 = h 0 (omega arith) in
    plain_byte b sheet (other_byte b none) ∙ ap (λ (xs : List ℕ). b ∷ xs) (guarded_whole sheet (λ i l. h (suc i) (omega arith)))

pub guarded_stays : (sheet : List ℕ) → list_all stays_inside sheet ≡ true → guarded sheet ≡ sheet
guarded_stays [] e = refl
guarded_stays (b ∷ sheet) e =
    let both = both_true (stays_inside b) (list_all stays_inside sheet) e in
    plain_byte b sheet (inside_byte b both.0) ∙ ap (λ (xs : List ℕ). b ∷ xs) (guarded_stays sheet both.1)

-- one more part of a sheet is written
pub guarded_more : (before rest sheet out one two new whole : List ℕ) → sheet ≡ before ++ (60 ∷ rest) → ((i : ℕ) → i < length before → get_or before i 0 ≢ 60) → one ≡ out ++ before → two ≡ one ++ (60 ∷ []) → new ≡ two ++ guard rest
    → out ++ guarded sheet ≡ whole → new ++ guarded rest ≡ whole
guarded_more before rest sheet out one two new whole s h e f g k =
    ap (λ (xs : List ℕ). xs ++ guarded rest) (g ∙ ap (λ (xs : List ℕ). xs ++ guard rest) (f ∙ ap (λ (xs : List ℕ). xs ++ (60 ∷ [])) e))
    ∙ turned out before (guard rest) (guarded rest)
    ∙ ap (λ (xs : List ℕ). out ++ xs) (sym (guarded_parts before rest h))
    ∙ ap (λ (xs : List ℕ). out ++ guarded xs) (sym s)
    ∙ k
  where
    turned : (a b c d : List ℕ) → (((a ++ b) ++ (60 ∷ [])) ++ c) ++ d ≡ a ++ (b ++ (60 ∷ (c ++ d)))
    turned a b c d = simp append_assoc

-- what is left is shorter
pub rest_shorter : (before rest sheet : List ℕ) → sheet ≡ before ++ (60 ∷ rest) → length rest < length sheet
rest_shorter before rest sheet e = rw e (longer before rest)
  where
    longer : (before rest : List ℕ) → length rest < length (before ++ (60 ∷ rest))
    longer [] rest = omega arith
    longer (b ∷ before) rest = let h : length rest < length (before ++ (60 ∷ rest)) = longer before rest in omega arith

-- ---- up to an end tag ----

-- no end tag begins where a sheet doesn't begin with a slash
no_slash : (sheet rest : List ℕ) → begins_with_slash sheet ≡ false → begins_with_slash (guarded sheet ++ (60 ∷ rest)) ≡ false
no_slash [] rest e = refl
no_slash (b ∷ sheet) rest e = e

-- a byte that begins no end tag
stays_before : (b : ℕ) (bs : List ℕ) → ((b == 60) && begins_with_slash bs) ≡ false → up_to_end_tag (b ∷ bs) ≡ b ∷ up_to_end_tag bs
stays_before b bs e = rw (e) refl

-- a `<` in a sheet
past_tag : (bs rest : List ℕ) (slash : Bool) → begins_with_slash bs ≡ slash → up_to_end_tag (guarded bs ++ (60 ∷ (47 ∷ rest))) ≡ guarded bs
    → up_to_end_tag (60 ∷ ((guard bs ++ guarded bs) ++ (60 ∷ (47 ∷ rest)))) ≡ 60 ∷ (guard bs ++ guarded bs)
past_tag bs rest true e h = rw (e) (ap (λ (xs : List ℕ). 60 ∷ (92 ∷ xs)) h)
past_tag bs rest false e h =
    let n : begins_with_slash (guarded bs ++ (60 ∷ (47 ∷ rest))) ≡ false = no_slash bs (47 ∷ rest) e in
    rw (e) (stays_before 60 (guarded bs ++ (60 ∷ (47 ∷ rest))) n ∙ ap (λ (xs : List ℕ). 60 ∷ xs) h)

pub up_to_guarded : (sheet rest : List ℕ) → up_to_end_tag (guarded sheet ++ (60 ∷ (47 ∷ rest))) ≡ guarded sheet
up_to_guarded [] rest = refl
up_to_guarded (b ∷ sheet) rest =
    elim (cases_Bool (b == 60)) [
      | inl e ↦ rw (that_byte b e) (past_tag sheet rest (begins_with_slash sheet) refl (up_to_guarded sheet rest))
      | inr e ↦ rw (e) (ap (λ (xs : List ℕ). b ∷ xs) (up_to_guarded sheet rest))
    ]

pub up_to_harmless : (text rest : List ℕ) → list_all is_harmless text ≡ true → up_to_end_tag (text ++ (60 ∷ (47 ∷ rest))) ≡ text
up_to_harmless [] rest e = refl
up_to_harmless (b ∷ text) rest e =
    let both = both_true (is_harmless b) (list_all is_harmless text) e in
    rw (harmless_byte b both.0) (ap (λ (xs : List ℕ). b ∷ xs) (up_to_harmless text rest both.1))

-- ---- after a word ----

-- a word that begins with `<` begins in no harmless text
other_begin : (b : ℕ) (word bs : List ℕ) → (60 == b) ≡ false → after (60 ∷ word) (b ∷ bs) ≡ after (60 ∷ word) bs
other_begin b word bs e = rw (e) refl

pub after_harmless : (word text rest : List ℕ) → list_all is_harmless text ≡ true → after (60 ∷ word) (text ++ rest) ≡ after (60 ∷ word) rest
after_harmless word [] rest e = refl
after_harmless word (b ∷ text) rest e =
    let both = both_true (is_harmless b) (list_all is_harmless text) e in
    other_begin b word (text ++ rest) (harmless_turned b both.0) ∙ after_harmless word text rest both.1

-- ---- documents ----

after_front_title : (rest : List ℕ) → after (codes "<title>") (front ++ rest) ≡ rest
after_front_title rest = refl

after_front_style : (rest : List ℕ) → after (codes "<style>\n") (front ++ rest) ≡ after (codes "<style>\n") rest
after_front_style rest = refl

after_title : (rest : List ℕ) → after (codes "<style>\n") (codes "</title>\n<style>\n" ++ rest) ≡ rest
after_title rest = refl

-- the title of a document, as it is written
pub title_of_document : (title sheet body : List ℕ) → list_all is_harmless (escaped title) ≡ true → up_to_end_tag (after (codes "<title>") (document_text title sheet body)) ≡ escaped title
title_of_document title sheet body h =
    let behind : List ℕ = codes "title>\n<style>\n" ++ (guarded sheet ++ (codes "</style>\n</head>\n<body>\n" ++ (body ++ codes "</body>\n</html>\n"))) in
    ap up_to_end_tag (after_front_title (escaped title ++ (60 ∷ (47 ∷ behind)))) ∙ up_to_harmless (escaped title) behind h

-- its sheet
pub sheet_of_document : (title sheet body : List ℕ) → list_all is_harmless (escaped title) ≡ true → up_to_end_tag (after (codes "<style>\n") (document_text title sheet body)) ≡ guarded sheet
sheet_of_document title sheet body h =
    let behind : List ℕ = guarded sheet ++ (codes "</style>\n</head>\n<body>\n" ++ (body ++ codes "</body>\n</html>\n")) in
    ap up_to_end_tag
    (after_front_style (escaped title ++ (codes "</title>\n<style>\n" ++ behind))
    ∙ after_harmless (codes "style>\n") (escaped title) (codes "</title>\n<style>\n" ++ behind) h
    ∙ after_title behind)
    ∙ up_to_guarded sheet (codes "style>\n</head>\n<body>\n" ++ (body ++ codes "</body>\n</html>\n"))

-- ---- where a sheet is cut ----

-- what stands after a `<` is text
pub rest_utf8 : (s before rest : List ℕ) → IsUtf8 s → SplitsAroundMatch (FindsChar 60) s before rest → IsUtf8 rest
rest_utf8 s before rest u h = subst IsUtf8 (sym h.4) (IsUtf8-drop s h.1 u (subst (IsCharBoundary s) (sym h.2.1.ends) h.2.1.after))
