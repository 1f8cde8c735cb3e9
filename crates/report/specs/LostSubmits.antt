-- Texts about the bodies that submit a job to a pool and never get it.
use Rattle.std.specs.Prelude.{ℕ, Bool, false, not, ◌&&◌, ◌==◌, if◌then◌else◌, List, [], ◌∷◌, ◌++◌, flat_map, codes}
use Rattle.std.specs.List.{enumerate_from, list_any}
use Rattle.job_bodies.specs.declared.action.Action.{Action}
use Rattle.job_bodies.specs.declared.action.Action.TheVariants.{Submit}
use Rattle.job_bodies.specs.Plan.{Class, Client, Plan, has_get_of}

-- the action at position i submits a job of class k, and the body has no get of this job
abbrev pub loses_at : List Action → ℕ → ℕ × Action → Bool
loses_at body k (i, Submit n) = n == k && not (has_get_of body i)
loses_at body k (i, _) = false

-- the body submits a job of class k that it never gets
abbrev pub loses : List Action → ℕ → Bool
loses body k = list_any (loses_at body k) (enumerate_from 0 body)

-- the text `KIND NAME submits CLASS without a get`; `kind` and `name` are those of the class or client kind with the body
abbrev pub lost_words : List ℕ → List ℕ → List ℕ → List ℕ
lost_words kind name class = kind ++ (codes " " ++ (name ++ (codes " submits " ++ (class ++ codes " without a get"))))

-- the text about the body and class k, if k belongs to pool p and the body submits a job of k that it never gets; otherwise empty
abbrev pub lost_class : ℕ → List ℕ → List ℕ → List Action → ℕ × Class → List (List ℕ)
lost_class p kind name body (k, class) = if class.pool == p && loses body k then lost_words kind name class.name ∷ [] else []

-- the texts about one body: one for each class of pool p, if the body submits a job of this class that it never gets
abbrev pub lost_by : Plan → ℕ → List ℕ → List ℕ → List Action → List (List ℕ)
lost_by plan p kind name body = flat_map (lost_class p kind name body) (enumerate_from 0 plan.classes)

abbrev pub lost_by_client : Plan → ℕ → Client → List (List ℕ)
lost_by_client plan p client = lost_by plan p (codes "client") client.name client.body

abbrev pub lost_by_class : Plan → ℕ → Class → List (List ℕ)
lost_by_class plan p class = lost_by plan p (codes "class") class.name class.body

-- the texts about all bodies: those of the client kinds, and then those of the classes
abbrev pub lost_texts : Plan → ℕ → List (List ℕ)
lost_texts plan p = flat_map (lost_by_client plan p) plan.clients ++ flat_map (lost_by_class plan p) plan.classes
