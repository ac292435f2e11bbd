-- The resource that a request's target names.
use Rattle.std.specs.Prelude.{◌≡◌, ℕ, List, [], ◌∷◌, ◌++◌, Bool, false, ◌==◌, not, codes, IsTrue, Option, Some, None}
use Rattle.std.specs.List.{before_first, list_any}
use Rattle.desk_engine.specs.declared.lists.ListOf.{ListOf}
use Rattle.desk_engine.specs.declared.lists.ListOf.TheVariants.{Senders, Owners, Gateways, Devices}

abbrev pub is_question_mark : ℕ → Bool
is_question_mark c = c == 63

abbrev pub is_slash : ℕ → Bool
is_slash c = c == 47

-- the target up to its first question mark
abbrev pub path_of : List ℕ → List ℕ
path_of target = before_first is_question_mark target

-- one or more octets, none of them a slash
abbrev pub is_part : List ℕ → Bool
is_part [] = false
is_part (c ∷ text) = not (list_any is_slash (c ∷ text))

-- the resources, with the names in their paths
pub data Resource : Type 0 where
  messages : Resource
  reports : (owner month : List ℕ) → Resource
  bands : (gateway : List ℕ) → Resource
  room : (gateway time : List ℕ) → Resource
  log : (from : List ℕ) → Resource
  answers : (from : List ℕ) → Resource
  lists : (of : ListOf) → Resource
  device : (dev_eui : List ℕ) → Resource
  receptions : (dev_eui month : List ℕ) → Resource
  downlinks : (gateway month : List ℕ) → Resource

-- the path of a list
abbrev pub list_path : ListOf → List ℕ
list_path Senders = codes "/v1/senders"
list_path Owners = codes "/v1/owners"
list_path Gateways = codes "/v1/gateways"
list_path Devices = codes "/v1/devices"

-- the path of a resource
abbrev pub path_to : Resource → List ℕ
path_to messages = codes "/v1/messages"
path_to (reports owner month) = codes "/v1/reports/" ++ owner ++ codes "/" ++ month
path_to (bands gateway) = codes "/v1/bands/" ++ gateway
path_to (room gateway time) = codes "/v1/room/" ++ gateway ++ codes "/" ++ time
path_to (log from) = codes "/v1/log/" ++ from
path_to (answers from) = codes "/v1/answers/" ++ from
path_to (lists of) = list_path of
path_to (device dev_eui) = codes "/v1/devices/" ++ dev_eui
path_to (receptions dev_eui month) = codes "/v1/receptions/" ++ dev_eui ++ codes "/" ++ month
path_to (downlinks gateway month) = codes "/v1/downlinks/" ++ gateway ++ codes "/" ++ month

-- each name in it can be a part of a path
abbrev pub HasParts : Resource → Type 0
HasParts messages = Unit {0}
HasParts (reports owner month) = IsTrue (is_part owner) × IsTrue (is_part month)
HasParts (bands gateway) = IsTrue (is_part gateway)
HasParts (room gateway time) = IsTrue (is_part gateway) × IsTrue (is_part time)
HasParts (log from) = IsTrue (is_part from)
HasParts (answers from) = IsTrue (is_part from)
HasParts (lists of) = Unit {0}
HasParts (device dev_eui) = IsTrue (is_part dev_eui)
HasParts (receptions dev_eui month) = IsTrue (is_part dev_eui) × IsTrue (is_part month)
HasParts (downlinks gateway month) = IsTrue (is_part gateway) × IsTrue (is_part month)

-- the path is that of the resource
abbrev pub IsPathTo : List ℕ → Resource → Type 0
IsPathTo path resource = HasParts resource × (path ≡ path_to resource)

-- the path names this resource, or none
abbrev pub Names : List ℕ → Option Resource → Type 0
Names path None = (resource : Resource) → ¬ (IsPathTo path resource)
Names path (Some resource) = IsPathTo path resource

-- the method of a resource
abbrev pub method_of : Resource → List ℕ
method_of messages = codes "POST"
method_of _ = codes "GET"
