-- The text of a failing condition, such as `pool p blocked, total: B2 1 above 0`.
use Rattle.std.specs.Prelude.{ℕ, List, ◌++◌, codes, decimal}
use Rattle.job_bodies.specs.Plan.{Plan, pool_at, class_at, client_at}
use Rattle.weights.specs.declared.row.Rule.{Rule}
use Rattle.weights.specs.declared.row.Rule.TheVariants.{K1, K2, K3, V2, V3, V4, V5, V6, V7, S1, S2, L1, L2, L3, L5, B1, B2}
use Rattle.weights.specs.declared.row.Place.{Place}
use Rattle.weights.specs.declared.row.Place.TheVariants.{Class, ClassAction, Client, ClientAction, Worker, Total}
use Rattle.soundness.specs.declared.note.Section.{Section}
use Rattle.soundness.specs.declared.note.Section.TheVariants.{Ranks, Standing, Lifetime, Blocked}
use Rattle.soundness.specs.declared.note.Note.{Note}

-- the text of a section, such as `pool p standing`
abbrev pub section_text : Plan → Section → List ℕ
section_text plan Ranks = codes "ranks"
section_text plan (Standing p) = codes "pool " ++ (pool_at plan p).name ++ codes " standing"
section_text plan (Lifetime p) = codes "pool " ++ (pool_at plan p).name ++ codes " lifetime"
section_text plan (Blocked p) = codes "pool " ++ (pool_at plan p).name ++ codes " blocked"

-- the text of the place of a row, such as `class query action 2`
abbrev pub place_text : Plan → Place → List ℕ
place_text plan (Class k) = codes "class " ++ (class_at plan k).name
place_text plan (ClassAction k i) = codes "class " ++ (class_at plan k).name ++ codes " action " ++ decimal i
place_text plan (Client c) = codes "client " ++ (client_at plan c).name
place_text plan (ClientAction c i) = codes "client " ++ (client_at plan c).name ++ codes " action " ++ decimal i
place_text plan (Worker p) = codes "workers " ++ (pool_at plan p).name
place_text plan Total = codes "total"

abbrev pub rule_text : Rule → List ℕ
rule_text K1 = codes "K1"
rule_text K2 = codes "K2"
rule_text K3 = codes "K3"
rule_text V2 = codes "V2"
rule_text V3 = codes "V3"
rule_text V4 = codes "V4"
rule_text V5 = codes "V5"
rule_text V6 = codes "V6"
rule_text V7 = codes "V7"
rule_text S1 = codes "S1"
rule_text S2 = codes "S2"
rule_text L1 = codes "L1"
rule_text L2 = codes "L2"
rule_text L3 = codes "L3"
rule_text L5 = codes "L5"
rule_text B1 = codes "B1"
rule_text B2 = codes "B2"

-- the head of each line of a section, such as `pool p blocked, `
abbrev pub head : Plan → Section → List ℕ
head plan section = section_text plan section ++ codes ", "

-- the part of a line after its head, such as `total: B2 1 above 0`: the place, the rule, and both sides
abbrev pub condition : Plan → Note → List ℕ
condition plan note = place_text plan note.place ++ codes ": " ++ rule_text note.rule ++ codes " " ++ decimal note.left ++ codes " above " ++ decimal note.right

-- the line of a failing condition, without the newline
abbrev pub line : Plan → Note → List ℕ
line plan note = head plan note.section ++ condition plan note
