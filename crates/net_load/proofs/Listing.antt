-- The names of a folder's configurations.
use Rattle.std.proofs.Common.{◌≡◌, true, List, filter, sym, subst}
use Rattle.std.specs.Prelude.{Option, Some, None, IfSome, Ok, IsTrue}
use Rattle.net_types.proofs.Ordered.{in_order_sorted}
use Rattle.net_io.specs.Files.{Told, has_folder, IsListing, IsAbsentUnless}
use Rattle.topo_links.specs.Ends.{Word}
use Rattle.topo_links.specs.Names.{name_cmp, sorted_names}
use Rattle.topo_links.proofs.NameOrder.{name_total, name_exact, members_sorted, members_filter}
use Rattle.net_load.specs.Folder.{is_config_name, AreConfigNames}

config_listing : (t : Told) (folder : Word) (listing : List Word) → IsListing t folder listing → AreConfigNames t folder (sorted_names (filter is_config_name listing))
config_listing t folder listing h = record {
  order = in_order_sorted name_cmp name_total name_exact (filter is_config_name listing);
  all = λ q. (
    λ c. (let m = (members_filter is_config_name listing q).0 ((members_sorted (filter is_config_name listing) q).0 c) in ((h.all q).0 m.0, m.1)),
    λ c. (members_sorted (filter is_config_name listing) q).1 ((members_filter is_config_name listing q).1 ((h.all q).1 c.0, c.1)),
  );
}

pub listed : {T : Type 0} (o : Option Told) (folder : Word) (listing found : List Word) (x : T)
    → IfSome o (λ t. IsListing t folder listing) → IfSome o (λ t. IsAbsentUnless {T = T} (IsTrue (has_folder t folder)) (Ok x))
    → found ≡ sorted_names (filter is_config_name listing)
    → IfSome o (λ t. (has_folder t folder ≡ true) × AreConfigNames t folder found)
listed None folder listing found x names there e = tt
listed (Some t) folder listing found x names there e = (there.ok, subst (λ (ns : List Word). AreConfigNames t folder ns) (sym e) (config_listing t folder listing names))
