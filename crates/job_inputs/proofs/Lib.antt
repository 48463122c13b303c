pub mod ConfigLemmas
pub mod FolderLemmas
