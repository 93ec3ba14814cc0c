pub mod FreeKeys
pub mod KeyLists
pub mod KeySets
pub mod QueuedKeys
