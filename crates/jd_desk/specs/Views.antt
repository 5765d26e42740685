-- The views of a desk's table, the rule that ties them together, and what each step does to them.
use Rattle.std.specs.Prelude.{◌≡◌, ℕ, ◌-◌, ◌<◌, List, [], ◌∷◌, ◌++◌, length, drop, sum_by, Some, None, unwrap_or}
use Rattle.std.specs.List.{enumerate_from}
use mathlib.Core.Option.{Option, some, none}
use lib.ListN.{get_elem?}
use Rattle.atomic_table.specs.Table.{State, Me, Step}
use Rattle.jd_desk.specs.declared.rule.View.{View}
use Rattle.jd_desk.specs.declared.rule.TheConstants.{SHARES}
use Rattle.jd_desk.specs.declared.seat.Holding.{Holding}
use Rattle.jd_desk.specs.Holding.{only_shares, both_held, FitsList, IsWhole, count_at}

module _ {E : Type 0} where
  -- the view of a seat: what it holds, and no list
  abbrev pub seat_view : Holding E → View E
  seat_view held = record { held = held; list = None }

  -- the view that has the list
  abbrev pub list_view : Holding E → List E → View E
  list_view held list = record { held = held; list = Some list }

  -- the view under the lock between two turns: the list, and nothing held
  abbrev pub book_view : List E → View E
  book_view list = list_view (only_shares 0) list

  -- the one view of a new table: all shares, and the empty list
  abbrev pub first_view : View E
  first_view = list_view (only_shares SHARES) []

  abbrev pub emptied : View E → View E
  emptied v = record { held = only_shares 0; list = v.list }

  abbrev pub without_list : View E → View E
  without_list v = seat_view v.held

  abbrev pub less_one : View E → View E
  less_one v = record { held = record { shares = v.held.shares - 1; entries = v.held.entries; seen = v.held.seen }; list = v.list }

  abbrev pub one_share : View E
  one_share = seat_view (only_shares 1)

  abbrev pub joined : View E → View E → View E
  joined v w = record { held = both_held v.held w.held; list = v.list }

  abbrev pub spent : View E
  spent = seat_view (only_shares 0)

  -- the view after its list has become this one: what the list has more are entries of the view, and the list was seen
  abbrev pub grown : View E → List E → View E
  grown v list =
      let found = unwrap_or v.list [] in record {
        held = record {
          shares = v.held.shares;
          entries = v.held.entries ++ enumerate_from (length found) (drop (length found) list);
          seen = v.held.seen ++ list ∷ [];
        };
        list = Some list;
      }

  -- only the view at the place `book` has the list; each view is true of the list; who has no share has no entry
  pub record Fits (book : ℕ) (list : List E) (id : ℕ) (v : View E) : Type 0 where
    pub has_list : (xs : List E) → v.list ≡ Some xs → (id ≡ book) × (xs ≡ list)
    pub held : FitsList list v.held
    pub idle : v.held.shares ≡ 0 → v.held.entries ≡ []

  -- The rule: the word is the length of the list, the views have all shares together, and each place of the list is an
  -- entry of all views together once.
  pub record Kept {S : Type 0} (s : State S (View E)) : Type 0 where
    pub book : ℕ
    pub list : List E
    pub words : s.words ≡ length list ∷ []
    pub shares : sum_by (λ v. v.held.shares) s.views ≡ SHARES
    pub once : (place : ℕ) → place < length list → sum_by (λ v. count_at place v.held.entries) s.views ≡ 1
    pub fits : (id : ℕ) (v : View E) → get_elem? s.views id ≡ some v → Fits book list id v

  module _ {T : Type 0} where
    -- a reading load: nothing changes. The view that has the list is true of it, and with all shares its entries are the whole list
    pub record Looks (before after : Me T (View E)) : Type 0 where
      pub same : after ≡ before
      pub fits : (xs : List E) → before.0.list ≡ Some xs → FitsList xs before.0.held
      pub whole : (xs : List E) → before.0.list ≡ Some xs → before.0.held.shares ≡ SHARES → IsWhole xs before.0.held.entries

    -- the list of the value that the step announces
    abbrev pub announced : (T → List E) → Option T → List E
    announced log none = []
    announced log (some value) = log value

    -- the view's list becomes the announced one
    abbrev pub Adds : (T → List E) → Step T → Me T (View E) → Me T (View E) → Type 0
    Adds log step before after = after ≡ (grown before.0 (announced log step.said), before.1)
