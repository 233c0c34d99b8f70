-- Which scopes the bytes of a turn have.
pub use Rattle.syntect_parsing.specs.syntect_grammar_contexts.Contexts.{Scopes}
use Rattle.std.specs.Prelude.{ℕ, nat_le, nat_lt, ◌-◌, Bool, ◌&&◌, not, List, [], ◌∷◌, ◌++◌, map, filter, Option, Some, None, unwrap_or, replicate, if◌then◌else◌}
use Rattle.std.specs.List.{filter_map, flat_map, range_with_len}
use Rattle.syntect_reading_choice.specs.Engine.{Engine}
use Rattle.syntect_reading_choice.specs.Turn.{Live, group_at}
use Rattle.syntect_parsing.specs.Visible.{visible, visible_base}
use Rattle.syntect_parsing.specs.syntect_grammar.declared.syntax_set.SyntaxSet.{SyntaxSet}
use Rattle.syntect_reading_choice.specs.declared.level.Level.{Level}

-- a capture that has effect: where it stands, and its scopes
pub record Capture : Type 0 where
  pub start : ℕ
  pub end : ℕ
  pub scopes : Scopes

-- the byte at the place lies in the stretch of the capture
abbrev pub covers : ℕ → Capture → Bool
covers place c = nat_le c.start place && nat_lt place c.end

-- the first of two captures is longer than the second
abbrev pub is_longer : Capture → Capture → Bool
is_longer c d = nat_lt (d.end - d.start) (c.end - c.start)

-- a capture put before the first that is not longer
abbrev pub put : Capture → List Capture → List Capture
put c [] = c ∷ []
put c (d ∷ ds) = if is_longer d c then d ∷ put c ds else c ∷ d ∷ ds

-- longer ones first, equally long ones in the order of the list
abbrev pub longer_first : List Capture → List Capture
longer_first [] = []
longer_first (c ∷ cs) = put c (longer_first cs)

module _ (engine : Engine) where
  open engine use {in_lookaround}

  -- a capture of the group of this number, which stands here if it was set: empty stretches,
  -- stretches that reach out of the match, and groups of lookarounds give no scopes
  abbrev pub effect : Live → ℕ → Scopes → Option (ℕ × ℕ) → Option Capture
  effect m group scopes None = None
  effect m group scopes (Some at) =
      if nat_lt at.0 at.1 && nat_le m.start at.0 && nat_le at.1 m.end
      && not (in_lookaround m.searched group)
      then Some (record { start = at.0; end = at.1; scopes = scopes })
      else None

  -- the captures of a match that have effect, in the order of its pattern's list
  abbrev pub captures : Live → List Capture
  captures m =
      filter_map (λ entry. effect m entry.0 entry.1 (group_at m.groups entry.0))
      (unwrap_or m.pattern.captures [])

  -- the scopes of a byte inside a match: this base, the match's scopes, those of the captures over
  -- the byte
  abbrev pub scopes_at : Scopes → Live → ℕ → Scopes
  scopes_at below m place =
      below ++ m.pattern.scope
      ++ flat_map (λ c. c.scopes) (longer_first (filter (covers place) (captures m)))

  -- the scopes of each byte that a turn with this match passes: those before the match have the
  -- visible ones
  abbrev pub scopes_passed : SyntaxSet → List Level → ℕ → Live → List Scopes
  scopes_passed set levels place m =
      replicate (m.start - place) (visible set levels)
      ++ map (scopes_at (visible_base set levels m.pattern.operation) m)
      (range_with_len m.start (m.end - m.start))
