-- A document of HTML, and what a reader of it sees of its title and of its sheet.
use Rattle.std.specs.Prelude.{ℕ, ◌==◌, Bool, true, false, ◌&&◌, List, [], ◌∷◌, ◌++◌, codes, Option, Some, None, if◌then◌else◌}
use Rattle.syntect_documents.specs.syntect_writers.Entities.{escaped}

-- ---- sheets ----

-- the text begins with a slash
abbrev pub begins_with_slash : List ℕ → Bool
begins_with_slash [] = false
begins_with_slash (b ∷ bs) = b == 47

-- what stands between a `<` and this text, so that the two begin no end tag
abbrev pub guard : List ℕ → List ℕ
guard text = if begins_with_slash text then codes "\\" else []

-- a sheet with a backslash in each `</`
abbrev pub guarded : List ℕ → List ℕ
guarded [] = []
guarded (b ∷ bs) = b ∷ ((if b == 60 then guard bs else []) ++ guarded bs)

-- ---- documents ----

-- what stands before the title
abbrev pub front : List ℕ
front =
    codes "<!DOCTYPE html>\n<html>\n<head>\n<meta charset=\"utf-8\">\n"
    ++ codes "<meta name=\"viewport\" content=\"width=device-width, initial-scale=1\">\n<title>"

-- a document: its title, its sheet and its body
abbrev pub document_text : List ℕ → List ℕ → List ℕ → List ℕ
document_text title sheet body =
    front ++ (escaped title ++ (codes "</title>\n<style>\n" ++ (guarded sheet
    ++ (codes "</style>\n</head>\n<body>\n" ++ (body ++ codes "</body>\n</html>\n")))))

-- ---- what a reader sees ----

-- a text without a word that it begins with
abbrev pub without_front : List ℕ → List ℕ → Option (List ℕ)
without_front [] text = Some text
without_front (w ∷ ws) [] = None
without_front (w ∷ ws) (b ∷ bs) = if w == b then without_front ws bs else None

-- the one, or the other where it isn't there
abbrev pub or_else : Option (List ℕ) → List ℕ → List ℕ
or_else None other = other
or_else (Some text) other = text

-- what stands after the first place of a word in a text
abbrev pub after : List ℕ → List ℕ → List ℕ
after word [] = []
after word (b ∷ bs) = or_else (without_front word (b ∷ bs)) (after word bs)

-- what stands before the first end tag
abbrev pub up_to_end_tag : List ℕ → List ℕ
up_to_end_tag [] = []
up_to_end_tag (b ∷ bs) =
    if (b == 60) && begins_with_slash bs then [] else b ∷ up_to_end_tag bs
