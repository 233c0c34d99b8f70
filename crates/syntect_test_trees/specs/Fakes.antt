-- A tree in memory, and what its calls tell.
use Rattle.std.specs.Prelude.{◌≡◌, ◌⊎◌, ℕ, ◌==◌, List, [], ◌∷◌, Option, Some, None, if◌then◌else◌}
use Rattle.std.specs.Borrow.{Bor}
use Rattle.std.specs.Cmp.Lexicographic.{pointwise}
use Rattle.std.specs.Io.BufRead.{take_through}
use Rattle.std.specs.IoError.{error_kind}
use Rattle.std.specs.declared.io.ErrorKind.TheVariants.{OutOfMemory, PermissionDenied}
use Rattle.syntect_test_trees.specs.syntect_base.Trees.{Answer, has_bytes, not_read, begins, not_begun, opened, not_opened, not_read_on, listed, not_listed, stands, not_told, written, not_written}
use Rattle.syntect_test_trees.specs.syntect_base.declared.tree.Kind.{Kind}
use Rattle.syntect_test_trees.specs.syntect_base.declared.tree.Kind.TheVariants as kind
use Rattle.syntect_test_trees.specs.declared.fake.FakeTree.{FakeTree}
use Rattle.syntect_test_trees.specs.declared.fake.Thing.{Thing}
use Rattle.syntect_test_trees.specs.declared.fake.Thing.TheVariants.{File, Folder, Gone, Shut, Neither}

-- ---- For proofs and private functions alone ----

-- what stands at a path: that of the first entry of this path
abbrev pub thing_at : List ℕ → List (Bor (List ℕ) × Thing) → Option Thing
thing_at path [] = None
thing_at path (entry ∷ entries) =
    if pointwise ◌==◌ entry.0.now path then Some entry.1 else thing_at path entries

-- what a tree tells of what stands somewhere
abbrev pub kind_of : Thing → Kind
kind_of (File bytes) = kind.File
kind_of (Folder names) = kind.Folder
kind_of Gone = kind.File
kind_of Shut = kind.Folder
kind_of Neither = kind.Other

-- no bytes can be read there
abbrev pub IsUnread : Option Thing → Type 0
IsUnread (Some (File bytes)) = ⊥
IsUnread thing = Unit {0}

-- no names can be listed there
abbrev pub IsUnlisted : Option Thing → Type 0
IsUnlisted (Some (Folder names)) = ⊥
IsUnlisted thing = Unit {0}

-- An answer is what stands there; a fault comes where that stands not there, or of lack of memory.
-- Of a file that was opened the faults of reading aren't told. Nothing is written.
abbrev pub Tells : FakeTree → Answer → Type 0
Tells tree (has_bytes path bytes) =
    (b : Bor (List ℕ)) × (thing_at path tree.entries.now ≡ Some (File b)) × (bytes ≡ b.now)
Tells tree (not_read path e) =
    (error_kind e ≡ OutOfMemory) ⊎ IsUnread (thing_at path tree.entries.now)
Tells tree (begins path line) =
    (b : Bor (List ℕ)) × (thing_at path tree.entries.now ≡ Some (File b))
    × (line ≡ take_through 10 b.now)
Tells tree (not_begun path e) =
    (error_kind e ≡ OutOfMemory) ⊎ IsUnread (thing_at path tree.entries.now)
Tells tree (opened path left) =
    (b : Bor (List ℕ)) × (thing_at path tree.entries.now ≡ Some (File b)) × (left ≡ Some b.now)
Tells tree (not_opened path e) = IsUnread (thing_at path tree.entries.now)
Tells tree (not_read_on path e) = Unit {0}
Tells tree (listed path names) =
    (b : Bor (List ℕ)) × (thing_at path tree.entries.now ≡ Some (Folder b)) × (names ≡ b.now)
Tells tree (not_listed path e) =
    (error_kind e ≡ OutOfMemory) ⊎ IsUnlisted (thing_at path tree.entries.now)
Tells tree (stands path kind) =
    (thing : Thing) × (thing_at path tree.entries.now ≡ Some thing) × (kind ≡ kind_of thing)
Tells tree (not_told path e) = thing_at path tree.entries.now ≡ None
Tells tree (written path bytes) = ⊥
Tells tree (not_written path e) = error_kind e ≡ PermissionDenied
