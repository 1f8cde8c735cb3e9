-- The abstract view of a world.
use Rattle.std.specs.Prelude.{◌≡◌, ℕ, ◌+◌, ◌⊎◌, length, count_by, is_some}
use Rattle.interleaving.specs.LiveView.{View}

-- the live view, and the number of places for live jobs, free ones included
pub record WorldValue : Type 0 where
  pub view : View
  pub places : ℕ

abbrev pub live_jobs : View → ℕ
live_jobs view = count_by is_some view.jobs

-- the number of places grew by 1, because a job was created while each place held a live job
pub record IsOnePlaceMore (old new : WorldValue) : Type 0 where
  pub more : new.places ≡ old.places + 1
  pub made : length new.view.jobs ≡ length old.view.jobs + 1
  pub full : live_jobs old.view ≡ old.places

-- the number of places is unchanged, or grows by one because no place was free for a new job
abbrev pub ReusesPlaces : WorldValue → WorldValue → Type 0
ReusesPlaces old new = (new.places ≡ old.places) ⊎ IsOnePlaceMore old new
