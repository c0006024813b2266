pub mod HubAdopt
pub mod HubChange
pub mod HubContent
pub mod HubCreate
pub mod HubLaw
pub mod HubRead
pub mod HubSchema
pub mod HubTables
