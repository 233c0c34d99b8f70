-- What begins a node, as the code has it.
use Rattle.std.specs.Prelude.{ℕ, ◌<◌, length}
use Rattle.syntect_yaml.specs.Blocks as blocks
use Rattle.syntect_yaml.specs.declared.block.Start.{Start}
use Rattle.syntect_yaml.specs.declared.block.Start.TheVariants.{Item, Entry, Part}

-- ---- For proofs and private functions alone ----

abbrev pub start_view : Start → blocks.Start
start_view Item = blocks.starts_item
start_view (Entry k t) = blocks.starts_entry k t.now
start_view Part = blocks.starts_part

-- what follows a key is shorter
abbrev pub StartsWithin : ℕ → Start → Type 0
StartsWithin n Item = Unit {0}
StartsWithin n (Entry k t) = length t.now < n
StartsWithin n Part = Unit {0}
