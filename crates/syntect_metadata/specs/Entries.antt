-- Entries of metadata, as files have them.
use Rattle.std.specs.Prelude.{◌≡◌, ◌≢◌, ℕ, List, codes, Bool, ◌&&◌, false, Option, Some, option_and_then, is_some}
use Rattle.std.specs.IoError.{error_kind}
use Rattle.std.specs.declared.io.Error.{Error}
use Rattle.std.specs.declared.io.ErrorKind.TheVariants.{OutOfMemory}
use Rattle.serde_json.specs.Data.{Data, Members}
use Rattle.serde_json.specs.Find.{get, as_str, as_object}
use Rattle.serde_json.specs.View.{members_view}
use Rattle.syntect_base.specs.Settings.{IsSettings}
use Rattle.syntect_base.specs.Trees.{Answer, has_bytes, not_read}
use Rattle.syntect_base.specs.declared.loading.LoadingError.{LoadingError}
use Rattle.syntect_base.specs.declared.loading.LoadingError.TheVariants.{Io, ParseMetadata, ReadSettings, Memory}
use Rattle.syntect_base.specs.declared.loading.SettingsError.TheVariants.{Json}
use Rattle.syntect_metadata.specs.declared.raw.RawMetadataEntry.{RawMetadataEntry}

-- the scope text of a value
abbrev pub scope_in : Data → Option (List ℕ)
scope_in d = option_and_then as_str (get (codes "scope") d)

-- the settings of a value
abbrev pub settings_in : Data → Option Members
settings_in d = option_and_then as_object (get (codes "settings") d)

-- the value has both
abbrev pub is_entry : Data → Bool
is_entry d = is_some (scope_in d) && is_some (settings_in d)

-- the entry of a value in a file
pub record IsEntry (path : List ℕ) (d : Data) (entry : RawMetadataEntry) : Type 0 where
  pub file : entry.path ≡ path
  pub scope : scope_in d ≡ Some entry.scope
  pub settings : settings_in d ≡ Some (members_view entry.settings.entries)

-- the entry of a file's bytes
pub record IsEntryOf (path bytes : List ℕ) (entry : RawMetadataEntry) : Type 0 where
  pub value : Data
  pub settings : IsSettings bytes value
  pub is : IsEntry path value entry

-- why bytes give no entry: they are no settings, or their settings are no entry;
-- or there was no memory
pub data RefusesEntry (bytes : List ℕ) : LoadingError → Type 0 where
  no_settings : ((d : Data) → ¬ (IsSettings bytes d)) → RefusesEntry bytes (ReadSettings Json)
  no_entry : {d : Data} → IsSettings bytes d → is_entry d ≡ false → RefusesEntry bytes ParseMetadata
  no_memory : RefusesEntry bytes Memory

-- Why a file gives no entry, by what calls on its tree told: it was not read, for a fault that is
-- not that memory ran out; or the bytes that were read give none; or there was no memory.
pub data IsEntryFault (Told : Answer → Type 0) (path : List ℕ) : LoadingError → Type 0 where
  file_unread : {e : Error} → Told (not_read path e) → error_kind e ≢ OutOfMemory
      → IsEntryFault Told path (Io e)
  file_refused : {bytes : List ℕ} {e : LoadingError} → Told (has_bytes path bytes)
      → RefusesEntry bytes e → IsEntryFault Told path e
  file_no_room : IsEntryFault Told path Memory

-- the same path and scope text, and the same settings as values
pub record AreAlike (one other : RawMetadataEntry) : Type 0 where
  pub path : other.path ≡ one.path
  pub scope : other.scope ≡ one.scope
  pub settings : members_view other.settings.entries ≡ members_view one.settings.entries
