-- Classes that submit themselves through other classes.
use Rattle.std.specs.Prelude.{◌≡◌, ℕ, Bool, false, ◌&&◌, ◌==◌, ◌<◌, if◌then◌else◌, length, List, [], ◌∷◌, ◌++◌, codes, IsTrue}
use Rattle.std.specs.List.{list_any}
use Rattle.job_bodies.specs.declared.action.Action.{Action}
use Rattle.job_bodies.specs.declared.action.Action.TheVariants.{Submit}
use Rattle.job_bodies.specs.Plan.{Plan, class_at}

-- the action submits a job of class k
abbrev pub is_submit_of : ℕ → Action → Bool
is_submit_of k (Submit submitted) = submitted == k
is_submit_of k _ = false

-- jobs of class j submit jobs of class k
abbrev pub submits_class : Plan → ℕ → ℕ → Bool
submits_class plan j k = list_any (is_submit_of k) (class_at plan j).body

-- class j submits the first of these classes, each of them submits the next one, and the last one submits class k
abbrev pub submits_through : Plan → ℕ → List ℕ → ℕ → Bool
submits_through plan j [] k = submits_class plan j k
submits_through plan j (next ∷ rest) k = submits_class plan j next && submits_through plan next rest k

-- the words for one submit, such as `a submits b`
abbrev pub step_words : Plan → ℕ → ℕ → List ℕ
step_words plan j k = ((class_at plan j).name ++ codes " submits ") ++ (class_at plan k).name

-- the words for one submit, followed by a comma
abbrev pub step_before : Plan → ℕ → ℕ → List ℕ
step_before plan j k = step_words plan j k ++ codes ", "

-- the words for the submits from class j through these classes to class k
abbrev pub steps_words : Plan → ℕ → List ℕ → ℕ → List ℕ
steps_words plan j [] k = step_words plan j k
steps_words plan j (next ∷ rest) k = step_before plan j next ++ steps_words plan next rest k

-- the words for a class that submits itself
abbrev pub itself_words : List ℕ → List ℕ
itself_words name = codes "class " ++ (name ++ codes " submits itself")

-- the words for a circle through these classes; none if the class submits itself directly
abbrev pub circle_part : Plan → ℕ → List ℕ → List ℕ
circle_part plan k between = if length between == 0 then [] else codes ": " ++ steps_words plan k between k

-- the words for a class that submits itself through these classes
abbrev pub circle_words : Plan → ℕ → List ℕ → List ℕ
circle_words plan k between = itself_words (class_at plan k).name ++ circle_part plan k between

-- the text reports that the class submits itself. If it lists a circle of submits, the plan has this circle
pub record ReportsCircle (plan : Plan) (k : ℕ) (text : List ℕ) : Type 0 where
  pub between : List ℕ
  pub circle : 0 < length between → IsTrue (submits_through plan k between k)
  pub text_is : text ≡ circle_words plan k between
