-- What a writer was given so far.
use Rattle.std.proofs.Common.{◌≡◌, ℕ, ◌+◌, ◌-◌, ◌<◌, ◌≤◌, List, [], ◌++◌, length, take, drop, sym, ap, ◌∙◌, append_assoc, append-nil, subst, arith}
use Rattle.std.proofs.Math.Seq.{take-add, take-length}
use Rattle.std.proofs.lemmas.List.{length-drop}
use Rattle.std.specs.Prelude.{Option, Some, None, Result, Ok, Err, OnOk, OnErr}
use Rattle.std.specs.Io.KnownBytes.{Appends, Keeps}
use Rattle.syntect_cat.specs.Written.{Begins}

pub appends_none : (old : Option (List ℕ)) → Appends old old []
appends_none None = tt
appends_none (Some xs) = sym (append-nil xs)

pub appends_both : (old mid new : Option (List ℕ)) (xs ys : List ℕ) → Appends old mid xs → Appends mid new ys → Appends old new (xs ++ ys)
appends_both None mid new xs ys h k = tt
appends_both (Some a) (Some b) (Some c) xs ys h k = k ∙ ap (λ zs. zs ++ ys) h ∙ append_assoc a xs ys
appends_both (Some a) (Some b) None xs ys h k = absurd k
appends_both (Some a) None new xs ys h k = absurd h

pub appends_kept : (old mid new : Option (List ℕ)) (xs : List ℕ) → Appends old mid xs → Keeps mid new → Appends old new xs
appends_kept None mid new xs h k = tt
appends_kept (Some a) (Some b) (Some c) xs h k = k ∙ h
appends_kept (Some a) (Some b) None xs h k = absurd k
appends_kept (Some a) None new xs h k = absurd h

-- what comes after some bytes
pub rest_of : (bytes : List ℕ) (from : ℕ) → take (length bytes - from) (drop from bytes) ≡ drop from bytes
rest_of bytes from = subst (λ n. take n (drop from bytes) ≡ drop from bytes) (length-drop from bytes) (take-length (drop from bytes))

-- a part more of the bytes was written
pub part_more : (old mid new : Option (List ℕ)) (bytes : List ℕ) (from count next : ℕ) → next ≡ from + count → Appends old mid (take from bytes)
    → Appends mid new (take count (take (length bytes - from) (drop from bytes))) → Appends old new (take next bytes)
part_more old mid new bytes from count next e h k =
    let l : Appends mid new (take count (drop from bytes)) = subst (λ xs. Appends mid new (take count xs)) (rest_of bytes from) k in
    let f : take from bytes ++ take count (drop from bytes) ≡ take next bytes = sym (ap (λ n. take n bytes) e ∙ take-add from count bytes) in
    subst (Appends old new) f (appends_both old mid new (take from bytes) (take count (drop from bytes)) h l)

pub within_more : (bytes : List ℕ) (from count next : ℕ) → next ≡ from + count → from < length bytes → count ≤ length (take (length bytes - from) (drop from bytes)) → next ≤ length bytes
within_more bytes from count next e h k =
    let l : count ≤ length (drop from bytes) = subst (λ xs. count ≤ length xs) (rest_of bytes from) k in
    omega (arith, e, h, l, length-drop from bytes)

-- what is written whole is begun
pub begins_whole : (old new : Option (List ℕ)) (bytes : List ℕ) → Appends old new bytes → Begins old new bytes
begins_whole old new bytes h = (length bytes, subst (Appends old new) (sym (take-length bytes)) h)

-- a line was written, or begun
pub line_begun : {A E : Type 0} (result : Result A E) (old new : Option (List ℕ)) (bytes line : List ℕ) → bytes ≡ line → OnOk result (Appends old new bytes) → OnErr result (Begins old new bytes) → Begins old new line
line_begun (Ok x) old new bytes line e h k = begins_whole old new line (subst (Appends old new) e h)
line_begun (Err x) old new bytes line e h k = (k.0, subst (λ (xs : List ℕ). Appends old new (take k.0 xs)) e k.1)
