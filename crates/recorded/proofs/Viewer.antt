-- The viewer over a recording, with nothing left to claim, and that it looks at the first n - 1 slopes alone.
use mathlib.Core.Path.{◌≡◌, refl, sym, ap, ◌∙◌}
use mathlib.Core.List.{List}
use Prim.Native.Nat.{ℕ}
use lib.Dec.{eqb}
use lib.ListN.{length}
use Rattle.gtb.specs.declared.Shape.{Shape}
use Rattle.gtb.specs.declared.Refusal.{Refusal}
use Rattle.std.specs.Prelude.{Result, Ok, Err}
use Rattle.gtb.specs.Answer.{unless}
use Rattle.gtb.specs.Alike.{Alike}
use Rattle.session.specs.declared.Session.{Session}
use Rattle.session.specs.declared.Unlawful.{Unlawful}
use Rattle.session.specs.declared.Outcome.{Outcome}
use Rattle.session.specs.Session.{begun_session, Beginning, past}
use Rattle.session.specs.Arrival.{the_ways}
use Rattle.session.specs.Recording.{Sheet, Recording, Arrival, Fits}
use Rattle.session.specs.Claim.{Run}
use Rattle.session.proofs.Demand.{demand3_ways}
use Rattle.session.proofs.Alikes.{resloped, session_status_alike}
use Rattle.coverage.specs.Coverage.{cover_count, cover_of, bytes_after, Covering, Viewed}
use Rattle.coverage.proofs.Recording.{claimed_cover}

pub fitting_cover : {s : Shape} {pages : List Sheet} {begin : Result Session Unlawful} {arrivals : List Arrival} {answers : List Outcome} {end : Session} {bytes bytes' : List ℕ} {r : Result ℕ Refusal}
    → Recording s pages → Fits the_ways s pages arrivals → Beginning s begin → Run the_ways (begun_session begin) arrivals answers end
    → length bytes ≡ 256 → Covering end bytes bytes' r → Viewed pages bytes' r
fitting_cover {s} = claimed_cover (demand3_ways s)

module _ (σ : Session) (slopes : List ℕ) (alike : Alike σ.shape slopes) where
  same_answer : (bytes : List ℕ) → cover_of (resloped σ slopes) bytes ≡ cover_of σ bytes
  unfolding cover_of
  same_answer bytes =
      ap (λ (t : Result (Unit {0}) Refusal). past t Err (unless (eqb (length bytes) 256) (Err Refusal.Length) (Ok (cover_count σ.calls)))) (session_status_alike σ slopes alike)

  same_bytes : (bytes : List ℕ) (r : Result ℕ Refusal) → bytes_after σ bytes r ≡ bytes_after (resloped σ slopes) bytes r
  same_bytes bytes (Ok k) = refl
  same_bytes bytes (Err e) = refl

  pub cover_alike : {bytes bytes' : List ℕ} {r : Result ℕ Refusal} → Covering σ bytes bytes' r → Covering (resloped σ slopes) bytes bytes' r
  cover_alike {bytes} {r = r} c = record {
    answer = c.answer ∙ sym (same_answer bytes);
    left = c.left ∙ same_bytes bytes r;
  }
