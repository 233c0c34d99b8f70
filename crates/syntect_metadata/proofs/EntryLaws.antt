-- Why bytes and files give no entry.
use Rattle.std.proofs.Common.{◌≡◌, ◌≢◌, ℕ, List, sym, subst, false}
use Rattle.std.specs.Prelude.{Result, Ok, Err, IfOk, IfErr}
use Rattle.std.specs.declared.io.Error.{Error}
use Rattle.serde_json.specs.Data.{Data}
use Rattle.syntect_base.proofs.ReadLaws.{read_fault}
use Rattle.syntect_base.specs.Refusals.{IsReadFault, from_settings}
use Rattle.syntect_base.specs.Settings.{IsSettings}
use Rattle.syntect_base.specs.Trees.{Answer, has_bytes, not_read}
use Rattle.syntect_base.specs.declared.loading.SettingsError.{SettingsError}
use Rattle.syntect_base.specs.declared.loading.SettingsError.TheVariants as settings
use Rattle.syntect_base.specs.declared.loading.LoadingError.{LoadingError}
use Rattle.syntect_base.specs.declared.loading.LoadingError.TheVariants as loading
use Rattle.syntect_metadata.specs.Entries.{is_entry, IsEntryOf, RefusesEntry, IsEntryFault, no_settings, no_entry, no_memory, file_unread, file_refused, file_no_room}
use Rattle.syntect_metadata.specs.declared.raw.RawMetadataEntry.{RawMetadataEntry}

pub not_settings : (bytes : List ℕ) (e : SettingsError) → (e ≢ settings.Memory → (d : Data) → ¬ (IsSettings bytes d)) → RefusesEntry bytes (from_settings e)
not_settings bytes settings.Memory h = no_memory
not_settings bytes settings.Json h = no_settings (h (λ q. cc))

refuses : (bytes : List ℕ) (d : Data) → IsSettings bytes d → (e : LoadingError) → (e ≢ loading.Memory → e ≡ loading.ParseMetadata) → (e ≢ loading.Memory → is_entry d ≡ false) → RefusesEntry bytes e
refuses bytes d s loading.Memory k h = no_memory
refuses bytes d s loading.ParseMetadata k h = no_entry s (h (λ q. cc))
refuses bytes d s (loading.Io x) k h = let q : loading.Io x ≡ loading.ParseMetadata = k (λ q. cc) in cc
refuses bytes d s loading.WalkDir k h = let q : loading.WalkDir ≡ loading.ParseMetadata = k (λ q. cc) in cc
refuses bytes d s (loading.ParseSyntax x y) k h = let q : loading.ParseSyntax x y ≡ loading.ParseMetadata = k (λ q. cc) in cc
refuses bytes d s (loading.ParseTheme x) k h = let q : loading.ParseTheme x ≡ loading.ParseMetadata = k (λ q. cc) in cc
refuses bytes d s (loading.ReadSettings x) k h = let q : loading.ReadSettings x ≡ loading.ParseMetadata = k (λ q. cc) in cc
refuses bytes d s loading.BadPath k h = let q : loading.BadPath ≡ loading.ParseMetadata = k (λ q. cc) in cc

-- a value that is no entry
pub not_entry : (bytes : List ℕ) (d : Data) (r : Result RawMetadataEntry LoadingError) → IsSettings bytes d → IfErr r (λ e. e ≢ loading.Memory → e ≡ loading.ParseMetadata)
    → IfErr r (λ e. e ≢ loading.Memory → is_entry d ≡ false) → IfErr r (RefusesEntry bytes)
not_entry bytes d (Ok x) s k h = tt
not_entry bytes d (Err e) s k h = refuses bytes d s e k h

-- the entry of a file, by the bytes that were read of it
module _ (Told : Answer → Type 0) (path text : List ℕ) (same : text ≡ path) where
  pub file_not_read : (e : Error) (r : LoadingError) → Told (not_read text e) → IsReadFault e r → IsEntryFault Told path r
  file_not_read e r t f =
      let u : Told (not_read path e) = subst (λ (p : List ℕ). Told (not_read p e)) same t in
      read_fault (IsEntryFault Told path) e file_no_room (λ k. file_unread {e = e} u k) r f

  module _ (bytes items : List ℕ) (read : bytes ≡ items) (told : Told (has_bytes text items)) where
    has_read : Told (has_bytes path bytes)
    has_read = subst (λ (p : List ℕ). Told (has_bytes p bytes)) same (subst (λ (b : List ℕ). Told (has_bytes text b)) (sym read) told)

    pub file_gives_none : (r : Result RawMetadataEntry LoadingError) → IfErr r (RefusesEntry bytes) → IfErr r (IsEntryFault Told path)
    file_gives_none (Ok x) h = tt
    file_gives_none (Err e) h = file_refused has_read h

    pub file_gives : (r : Result RawMetadataEntry LoadingError) → IfOk r (IsEntryOf path bytes) → IfOk r (λ entry. (all : List ℕ) × Told (has_bytes path all) × IsEntryOf path all entry)
    file_gives (Ok x) h = (bytes, has_read, h)
    file_gives (Err e) h = tt
