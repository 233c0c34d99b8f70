-- Faults of reading, as refusals to load.
use Rattle.std.proofs.Common.{◌≡◌, ◌≢◌, sym, subst}
use Rattle.std.specs.IoError.{error_kind}
use Rattle.std.specs.declared.io.Error.{Error}
use Rattle.std.specs.declared.io.ErrorKind.TheVariants.{OutOfMemory}
use Rattle.syntect_base.specs.Refusals.{IsReadFault}
use Rattle.syntect_base.specs.declared.loading.LoadingError.{LoadingError}
use Rattle.syntect_base.specs.declared.loading.LoadingError.TheVariants.{WalkDir, Io, ParseSyntax, ParseMetadata, ParseTheme, ReadSettings, BadPath, Memory}

-- what holds of lack of memory, and of a fault that is none, holds of the refusal
module _ (P : LoadingError → Type 0) (e : Error) (memory : P Memory) (fault : error_kind e ≢ OutOfMemory → P (Io e)) where
  pub read_fault : (r : LoadingError) → IsReadFault e r → P r
  read_fault Memory f = memory
  read_fault (Io x) f =
      let q : Io x ≡ Io e = f.either (λ q. cc) in
      subst P (sym q) (fault (λ k. let m : Io x ≡ Memory = f.memory k in cc))
  read_fault WalkDir f = let q : WalkDir ≡ Io e = f.either (λ q. cc) in cc
  read_fault (ParseSyntax x y) f = let q : ParseSyntax x y ≡ Io e = f.either (λ q. cc) in cc
  read_fault ParseMetadata f = let q : ParseMetadata ≡ Io e = f.either (λ q. cc) in cc
  read_fault (ParseTheme x) f = let q : ParseTheme x ≡ Io e = f.either (λ q. cc) in cc
  read_fault (ReadSettings x) f = let q : ReadSettings x ≡ Io e = f.either (λ q. cc) in cc
  read_fault BadPath f = let q : BadPath ≡ Io e = f.either (λ q. cc) in cc
