-- Edits of main's tree: what each changes, and why one is refused.
use Rattle.std.specs.Prelude.{ℕ, ◌+◌, ◌==◌, nat_le, nat_lt, Bool, true, false, not, ◌&&◌, ◌||◌, nat_eq, if◌then◌else◌, List, [], ◌∷◌, ◌++◌, length, find, Option, Some, None}
use Rattle.std.specs.List.{list_any}
use Rattle.std.specs.Option.{option_eq}
use Rattle.anim_names.specs.declared.limit.LimitName.TheVariants.{Elements, Models, Timelines}
use Rattle.anim_names.specs.declared.limit.TheConstants.{MOST_ELEMENTS, MOST_MODELS, MOST_TIMELINES}
use Rattle.anim_names.specs.declared.property.Property.{Property}
use Rattle.anim_names.specs.Properties.{is_property}
use Rattle.keyframe_model.specs.Models.{Spec, PropertyValue, property_of}
use Rattle.tree_commit.specs.declared.edits.fault.EditFault.{EditFault}
use Rattle.tree_commit.specs.declared.edits.fault.EditFault.TheVariants.{Refused, NoMemory}
use Rattle.tree_commit.specs.declared.edits.refusal.EditRefusal.{EditRefusal}
use Rattle.tree_commit.specs.declared.edits.refusal.EditRefusal.TheVariants.{ElementThere, ElementNotThere, ModelIdUsed, ModelUnknown, TimelineThere, TimelineUnknown, GroupClosed, GroupMixed, Limit}
use Rattle.tree_commit.specs.Trees.{Look, Element, Clock, TreeLists, has_model, set_own, with_elements, with_models, with_timelines}

-- ---- edits

-- a change of the list of elements: one is added or removed, or shows another value of a property by itself
pub data ElementChange : Type 0 where
  AddElement : ℕ → Look → ElementChange
  RemoveElement : ℕ → ElementChange
  SetOwn : ℕ → PropertyValue → ElementChange

-- a change of the list of timelines
pub data TimelineChange : Type 0 where
  AddTimeline : ℕ → ℕ → TimelineChange

-- a change of the list of models
pub data ModelChange : Type 0 where
  AddModel : Spec → ModelChange
  RemoveModel : ℕ → ModelChange

-- an edit: a change of one of the tree's lists
pub data Change : Type 0 where
  OnElements : ElementChange → Change
  OnTimelines : TimelineChange → Change
  OnModels : ModelChange → Change

-- ---- their effect

-- the list without the first that passes the test; the rest keep their order
abbrev pub without : {A : Type 0} → (A → Bool) → List A → List A
without test [] = []
without test (x ∷ xs) = if test x then xs else x ∷ without test xs

-- the elements, with a changed look of the one of this id
abbrev pub with_look : ℕ → (Look → Look) → List Element → List Element
with_look id change [] = []
with_look id change (element ∷ elements) =
    if id == element.id then record element { look = change element.look } ∷ elements else
    element ∷ with_look id change elements

-- The elements after a change. What is added goes last.
abbrev pub elements_after : List Element → ElementChange → List Element
elements_after elements (AddElement id look) = elements ++ record { id = id; look = look } ∷ []
elements_after elements (RemoveElement id) = without (λ element. id == element.id) elements
elements_after elements (SetOwn id value) = with_look id (λ look. set_own look value) elements

-- the timelines after a change
abbrev pub timelines_after : List Clock → TimelineChange → List Clock
timelines_after timelines (AddTimeline id origin) = timelines ++ record { id = id; origin = origin } ∷ []

-- the models after a change
abbrev pub models_after : List Spec → ModelChange → List Spec
models_after models (AddModel model) = models ++ model ∷ []
models_after models (RemoveModel id) = without (λ model. id == model.id) models

abbrev pub without_model : TreeLists → ℕ → TreeLists
without_model tree id = with_models tree (models_after tree.models (RemoveModel id))

-- The tree after an edit. A model stays when its element is removed.
unfoldable pub tree_after : TreeLists → Change → TreeLists
tree_after tree (OnElements change) = with_elements tree (elements_after tree.elements change)
tree_after tree (OnTimelines change) = with_timelines tree (timelines_after tree.timelines change)
tree_after tree (OnModels change) = with_models tree (models_after tree.models change)

-- ---- what an edit is checked against

-- What all models ever added to a group have: one element, one timeline and one given start, and properties that
-- differ. Beside it stands how many commits there were when the first of them was added.
pub record GroupParts : Type 0 where
  pub group : ℕ
  pub element : ℕ
  pub timeline : ℕ
  pub start : Option ℕ
  pub properties : List Property
  pub commits_before : ℕ

-- Which elements are in the tree, and how often one was ever added; the timelines; the model ids that were ever used;
-- the groups; and how many commits there were. Nothing here depends on what main hears.
pub record Book : Type 0 where
  pub elements : List ℕ
  pub elements_added : ℕ
  pub timelines : List ℕ
  pub models : List ℕ
  pub groups : List GroupParts
  pub commits : ℕ

abbrev pub new_book : Book
new_book = record { elements = []; elements_added = 0; timelines = []; models = []; groups = []; commits = 0 }

abbrev pub is_in : ℕ → List ℕ → Bool
is_in id ids = list_any (λ other. id == other) ids

abbrev pub parts_of : Book → ℕ → Option GroupParts
parts_of book group = find (λ parts. group == parts.group) book.groups

-- ---- refusals

-- a commit came since the first model of the group
abbrev pub is_closed : ℕ → Option GroupParts → Bool
is_closed commits None = false
is_closed commits (Some parts) = nat_lt parts.commits_before commits

-- the group has another element, timeline or given start, or has the property already
abbrev pub is_mixed : ℕ → ℕ → Option ℕ → Property → Option GroupParts → Bool
is_mixed element timeline start property None = false
is_mixed element timeline start property (Some parts) =
    not (element == parts.element && timeline == parts.timeline && option_eq nat_eq start parts.start)
    || list_any (is_property property) parts.properties

-- why no model with these parts may be added: the first reason in this order
unfoldable pub model_refusal : Book → ℕ → ℕ → ℕ → ℕ → Option ℕ → Property → Option EditRefusal
model_refusal book id group element timeline start property =
    if is_in id book.models then Some ModelIdUsed else
    if not (is_in timeline book.timelines) then Some TimelineUnknown else
    if is_closed book.commits (parts_of book group) then Some GroupClosed else
    if is_mixed element timeline start property (parts_of book group) then Some GroupMixed else
    if nat_le MOST_MODELS (length book.models) then Some (Limit Models) else
    None

-- why a change of the elements is refused
abbrev pub element_refusal : Book → ElementChange → Option EditRefusal
element_refusal book (AddElement id look) =
    if is_in id book.elements then Some ElementThere else
    if nat_le MOST_ELEMENTS book.elements_added then Some (Limit Elements) else
    None
element_refusal book (RemoveElement id) = if is_in id book.elements then None else Some ElementNotThere
element_refusal book (SetOwn id value) = if is_in id book.elements then None else Some ElementNotThere

-- why a change of the timelines is refused
abbrev pub timeline_refusal : Book → TimelineChange → Option EditRefusal
timeline_refusal book (AddTimeline id origin) =
    if is_in id book.timelines then Some TimelineThere else
    if nat_le MOST_TIMELINES (length book.timelines) then Some (Limit Timelines) else
    None

-- why a change of the models is refused
abbrev pub refusal_of_model : Book → ModelChange → Option EditRefusal
refusal_of_model book (AddModel model) =
    model_refusal book model.id model.group model.element model.timeline model.start (property_of model)
refusal_of_model book (RemoveModel id) = if is_in id book.models then None else Some ModelUnknown

-- why an edit is refused: the first reason in this order
unfoldable pub edit_refusal : Book → Change → Option EditRefusal
edit_refusal book (OnElements change) = element_refusal book change
edit_refusal book (OnTimelines change) = timeline_refusal book change
edit_refusal book (OnModels change) = refusal_of_model book change

-- the refusal, where a fault is one
abbrev pub refusal_in : Option EditFault → Option EditRefusal
refusal_in None = None
refusal_in (Some NoMemory) = None
refusal_in (Some (Refused refusal)) = Some refusal

-- whether a change of the models finds what it is about: a model that is to be removed may be gone
abbrev pub finds_its_model : TreeLists → ModelChange → Bool
finds_its_model tree (AddModel model) = true
finds_its_model tree (RemoveModel id) = has_model tree id

-- Whether an edit that is not refused finds what it is about. Only a model that is to be removed may be gone.
abbrev pub finds_its_target : TreeLists → Change → Bool
finds_its_target tree (OnElements change) = true
finds_its_target tree (OnTimelines change) = true
finds_its_target tree (OnModels change) = finds_its_model tree change

-- ---- what is kept of an edit

abbrev pub new_parts : ℕ → Spec → GroupParts
new_parts commits model = record {
  group = model.group;
  element = model.element;
  timeline = model.timeline;
  start = model.start;
  properties = property_of model ∷ [];
  commits_before = commits;
}

abbrev pub with_property : Property → GroupParts → GroupParts
with_property property parts = record parts { properties = parts.properties ++ property ∷ [] }

-- the groups with one more model, the first of its group or a further one
abbrev pub with_member : ℕ → Spec → List GroupParts → List GroupParts
with_member commits model [] = new_parts commits model ∷ []
with_member commits model (parts ∷ others) =
    if model.group == parts.group then with_property (property_of model) parts ∷ others else
    parts ∷ with_member commits model others

-- the book after a change of the elements
abbrev pub book_after_elements : Book → ElementChange → Book
book_after_elements book (AddElement id look) =
    record book { elements = book.elements ++ id ∷ []; elements_added = book.elements_added + 1 }
book_after_elements book (RemoveElement id) = record book { elements = without (λ other. id == other) book.elements }
book_after_elements book (SetOwn id value) = book

-- the book after a change of the timelines
abbrev pub book_after_timelines : Book → TimelineChange → Book
book_after_timelines book (AddTimeline id origin) = record book { timelines = book.timelines ++ id ∷ [] }

-- the book after a change of the models
abbrev pub book_after_models : Book → ModelChange → Book
book_after_models book (AddModel model) =
    record book { models = book.models ++ model.id ∷ []; groups = with_member book.commits model book.groups }
book_after_models book (RemoveModel id) = book

-- the book after an edit that was not refused
unfoldable pub book_after : Book → Change → Book
book_after book (OnElements change) = book_after_elements book change
book_after book (OnTimelines change) = book_after_timelines book change
book_after book (OnModels change) = book_after_models book change

-- the book after a commit
abbrev pub book_after_commit : Book → Book
book_after_commit book = record book { commits = book.commits + 1 }
