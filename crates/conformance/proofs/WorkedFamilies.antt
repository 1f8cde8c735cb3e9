-- Examples of families of small plans, computed from the definitions.
use Rattle.std.proofs.Common.{◌≡◌, ℕ, true, false, List, [], ◌∷◌, refl}
use Rattle.std.specs.Prelude.{codes}
use Rattle.support.specs.LineNumber.{is_whole_number, number_of}
use Rattle.job_bodies.specs.Plan.{Pool, Class, Client, Plan}
use Rattle.conformance.specs.Family.{is_of_family, class_family, client_family}

-- ---- names
pub the_label : is_of_family (codes "query") (codes "query") ≡ true
unfolding is_of_family
the_label = refl

pub the_second : is_of_family (codes "query") (codes "query_2") ≡ true
unfolding is_of_family number_of is_whole_number
the_second = refl

pub the_seventeenth : is_of_family (codes "query") (codes "query_17") ≡ true
unfolding is_of_family number_of is_whole_number
the_seventeenth = refl

pub a_first : is_of_family (codes "query") (codes "query_1") ≡ false
unfolding is_of_family number_of is_whole_number
a_first = refl

pub leading_zero : is_of_family (codes "query") (codes "query_02") ≡ false
unfolding is_of_family number_of is_whole_number
leading_zero = refl

pub no_number : is_of_family (codes "query") (codes "query_") ≡ false
unfolding is_of_family number_of is_whole_number
no_number = refl

pub no_mark : is_of_family (codes "query") (codes "query2") ≡ false
unfolding is_of_family
no_mark = refl

pub another_word : is_of_family (codes "query") (codes "query_two") ≡ false
unfolding is_of_family number_of is_whole_number
another_word = refl

pub part_of_it : is_of_family (codes "query") (codes "quer") ≡ false
unfolding is_of_family
part_of_it = refl

-- A label with a number does not refer to the name without it.
pub of_its_own : is_of_family (codes "query_2") (codes "query") ≡ false
unfolding is_of_family
of_its_own = refl

-- ---- classes and client kinds
abbrev pool : List ℕ → Pool
pool name = record { name = name; core = 1; max = 1; queue = 1; prestart = false; may_reject = false; unbounded = false; core_timeout = false }

abbrev class : List ℕ → ℕ → Class
class name place = record { name = name; pool = place; body = [] }

abbrev client : List ℕ → Client
client name = record { name = name; count = 1; repeat = false; body = [] }

abbrev plan : Plan
plan = record {
  pools = pool (codes "web") ∷ pool (codes "database") ∷ [];
  classes = class (codes "query") 1 ∷ class (codes "request") 0 ∷ class (codes "query_2") 0 ∷ class (codes "query_3") 1 ∷ [];
  clients = client (codes "visitor_2") ∷ client (codes "crawler") ∷ client (codes "visitor") ∷ [];
}

pub in_the_database : class_family plan (codes "query") (codes "database") ≡ 0 ∷ 3 ∷ []
unfolding class_family is_of_family number_of is_whole_number
in_the_database = refl

pub in_the_web : class_family plan (codes "query") (codes "web") ≡ 2 ∷ []
unfolding class_family is_of_family number_of is_whole_number
in_the_web = refl

pub in_no_pool : class_family plan (codes "query") (codes "files") ≡ []
unfolding class_family is_of_family number_of is_whole_number
in_no_pool = refl

pub visitors : client_family plan (codes "visitor") ≡ 0 ∷ 2 ∷ []
unfolding client_family is_of_family number_of is_whole_number
visitors = refl
